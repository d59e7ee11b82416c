use Rattle.host.proofs.Told.{placed_on}
use Rattle.host.proofs.place.tell_placed.Goals as goal

pub returns-in-Some-clause-told : goal.returns-in-Some-clause-told
returns-in-Some-clause-told g c = placed_on g.E.Complaints.tells (g.F.Display.output c.args.fault.now) _ _ _ c.line.ensures c.show_place.ensures
