use Rattle.host.proofs.Shown.{shown_told, told_one}
use Rattle.host.proofs.Told.{placed_on}
use Rattle.host.proofs.host_faults.tell_file.Goals as goal

pub returns-in-Ok-clause-told : goal.returns-in-Ok-clause-told
returns-in-Ok-clause-told g c = placed_on g.E.Complaints.tells (g.F.Display.output c.args.fault.now) _ _ _ c.line.ensures
    (told_one g.E.Complaints.tells _ _ _ c.bytes-in-Ok.ensures (shown_told _ c.bytes.ensures.shown))
