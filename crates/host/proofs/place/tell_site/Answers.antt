use Rattle.host.proofs.Shown.{one, place_line, told_too}
use Rattle.host.proofs.place.tell_site.Goals as goal

pub loop-byte-preserved : goal.loop-byte-preserved
loop-byte-preserved g c = told_too g.E.Complaints.tells _ _ _ _ c.loop-byte.invariant c.bytes.ensures (one _ c.printable_byte.ensures.printable)

pub returns : goal.returns
returns g c = told_too g.E.Complaints.tells _ _ _ _ c.loop-byte.invariant c.line.ensures
    (place_line _ _ c.spot_of.ensures.fit.0 c.spot_of.ensures.fit.1)
