use Rattle.explain.proofs.Readers.{room_of}
use Rattle.explain.proofs.terms.table_of.Goals as goal

pub returns-clause-room : goal.returns-clause-room
returns-clause-room c = rw (c.ok.ensures.value, ← c.terms-terms.ensures) (room_of c.open_one.result c.terms-terms.result _ c.open_one.ensures.ok)
