use Rattle.std.proofs.Common.{All}
use Rattle.std.specs.Vec.Iter.{into_iter_items}
use Rattle.steal_pool.specs.Members.{IsMember}
use Rattle.steal_pool.proofs.pool.stations.Given as goal

abbrev pub invariant-loop-pass : goal.invariant-loop-pass
invariant-loop-pass g l =
    All (g.J.Job.suits l.job) (into_iter_items l.pass-iterator)
    × All IsMember l.members.items
    × All (λ s. IsMember s.member × g.J.Job.suits l.job s.pass × All (λ d. g.J.Job.right l.job d.0 d.1) s.done.items) l.stations.items
