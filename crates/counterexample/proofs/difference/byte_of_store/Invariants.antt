use Rattle.std.proofs.Common.{◌≡◌, ℕ, ◌<◌, ◌+◌}
use Rattle.counterexample.specs.Memories.{bytes_of}
use Rattle.counterexample.proofs.difference.byte_of_store.Given as goal

abbrev pub invariant-loop-k : goal.invariant-loop-k
invariant-loop-k l = (j : ℕ) → j < l.k → bytes_of l.a (l.stored.address + j) ≡ bytes_of l.b (l.stored.address + j)
