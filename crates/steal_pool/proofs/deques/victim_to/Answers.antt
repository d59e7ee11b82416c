use Rattle.steal_pool.proofs.Steps.{forks}
use Rattle.steal_pool.proofs.deques.victim_to.Goals as goal

pub another-pass-requires : goal.another-pass-requires
another-pass-requires g c = forks g.K.Fact.real c.requires.shares _ _
