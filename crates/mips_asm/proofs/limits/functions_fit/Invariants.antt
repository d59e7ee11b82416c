use Rattle.std.proofs.Common.{◌*◌, ◌≤◌, take}
use Rattle.std.specs.Prelude.{slice_index}
use Rattle.mips_asm.proofs.Counting.{Counts}
use Rattle.mips_asm.proofs.limits.functions_fit.Given as goal

abbrev pub invariant-loop-k : goal.invariant-loop-k
invariant-loop-k l = Counts (slice_index l.owner) (take l.k l.orders) l.words × (l.words ≤ 2052 * l.k)
