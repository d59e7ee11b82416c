use Rattle.std.proofs.Common.{◌≤◌, All, vec_len}
use Rattle.std.specs.Vec.Iter.{into_iter_items}
use Rattle.steal_pool.specs.Places.{EachPlace}
use Rattle.steal_pool.proofs.pool.run.Given as goal

abbrev pub invariant-loop-station : goal.invariant-loop-station
invariant-loop-station g l =
    All (λ s. All (λ d. g.J.Job.right l.job d.0 d.1) s.done.items) (into_iter_items l.station-iterator)
    × (vec_len l.all ≤ l.fn.n)
    × EachPlace (g.J.Job.right l.job) l.all.items
