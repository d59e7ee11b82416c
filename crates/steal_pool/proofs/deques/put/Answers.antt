use Rattle.steal_pool.proofs.Steps.{puts}
use Rattle.steal_pool.proofs.deques.put.Goals as goal

pub push_as-requires-clause-pushes : goal.push_as-requires-clause-pushes
push_as-requires-clause-pushes g c = puts g.K.Fact.real c.requires.puts _ _ _ c.requires.may
