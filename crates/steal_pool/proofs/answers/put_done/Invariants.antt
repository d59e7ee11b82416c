use Rattle.std.proofs.Common.{◌≡◌, All, vec_len}
use Rattle.std.specs.Vec.Iter.{into_iter_items}
use Rattle.steal_pool.specs.Places.{EachPlace}
use Rattle.steal_pool.proofs.answers.put_done.Given as goal

abbrev pub invariant-loop-i : goal.invariant-loop-i
invariant-loop-i g l = All (λ d. g.J.Job.right l.job d.0 d.1) (into_iter_items l.i-iterator) × (vec_len l.all ≡ vec_len l.initial.all) × EachPlace (g.J.Job.right l.job) l.all.items
