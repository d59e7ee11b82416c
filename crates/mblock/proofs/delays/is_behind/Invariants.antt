use Rattle.std.proofs.Common.{◌≡◌, ℕ, ◌<◌, false}
use Rattle.mblock.specs.Clean.{kinds_of, slot_words}
use Rattle.mblock.specs.CleanTests.{early_at}
use Rattle.mblock.proofs.delays.is_behind.Given as goal

abbrev pub invariant-loop-k : goal.invariant-loop-k
invariant-loop-k l = (i : ℕ) → i < l.k → early_at (kinds_of l.insts (slot_words l.slot)) i ≡ false
