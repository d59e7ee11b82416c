use Rattle.std.proofs.Common.{refl}
use Rattle.term_table.proofs.Steps.{arrived_at, load_ready}
use Rattle.term_table.proofs.nodes.Nodes.follow.Goals as goal

pub load-requires-clause-ready : goal.load-requires-clause-ready
load-requires-clause-ready g c = load_ready g.C.Act.begun _ _ _ _ c.requires.before refl refl (λ n. refl)

pub returns-clause-found : goal.returns-clause-found
returns-clause-found g c = arrived_at g.C.Act.begun _ _ _ _ c.requires.before c.load.ensures.moved
