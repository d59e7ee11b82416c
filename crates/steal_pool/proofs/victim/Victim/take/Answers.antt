use Rattle.std.proofs.Common.{min, ap}
use Rattle.steal_pool.proofs.Steps.{takes, finds_few}
use Rattle.steal_pool.proofs.victim.Victim.take.Goals as goal

pub steal_as-requires-clause-takes : goal.steal_as-requires-clause-takes
steal_as-requires-clause-takes g c = takes g.K.Fact.real c.requires.keeps _ _ 1

pub steal_as-requires-clause-empty : goal.steal_as-requires-clause-empty
steal_as-requires-clause-empty g c = finds_few g.K.Fact.real _ c.requires.notes _ _ _ (ap (λ f. min f 1) c.loop.invariant.0.1)
