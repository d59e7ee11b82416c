use Rattle.std.proofs.Common.{◌≡◌, ℕ, ◌<◌, ◌+◌, false, slice_get}
use Rattle.mblock.specs.CleanTests.{conflict_of}
use Rattle.mblock.proofs.delays.is_apart.Given as goal

abbrev pub invariant-loop-k : goal.invariant-loop-k
invariant-loop-k l = (i : ℕ) → i < l.k → conflict_of (slice_get l.insts i) (slice_get l.insts (i + 1)) ≡ false
