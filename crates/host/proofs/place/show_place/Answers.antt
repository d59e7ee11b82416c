use Rattle.host.proofs.Shown.{told_one}
use Rattle.host.proofs.place.show_place.Goals as goal

pub returns-in-Ok : goal.returns-in-Ok
returns-in-Ok g c = told_one g.E.Complaints.tells _ _ _ c.bytes.ensures (rw c.as_slice.ensures.value c.in-Ok.ensures)
