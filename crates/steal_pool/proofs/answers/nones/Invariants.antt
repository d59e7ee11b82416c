use Rattle.std.proofs.Common.{◌≡◌, All, None, vec_len}
use Rattle.steal_pool.proofs.answers.nones.Given as goal

abbrev pub invariant-loop : goal.invariant-loop
invariant-loop g l = (vec_len l.all ≡ l.counter) × All (λ x. x ≡ None) l.all.items
