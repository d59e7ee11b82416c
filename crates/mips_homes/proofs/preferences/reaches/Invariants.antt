use Rattle.std.proofs.Common.{◌≡◌, ℕ, drop}
use Rattle.std.specs.Prelude.{max, slice_index}
use Rattle.mips_homes.specs.Preferences.{blocks_reach}
use Rattle.mips_homes.proofs.preferences.reaches.Given as goal

abbrev pub invariant-loop-block : goal.invariant-loop-block
invariant-loop-block l = (y : ℕ) → max (slice_index l.reaches.items y) (blocks_reach (drop l.block-index l.blocks) y) ≡ blocks_reach l.blocks y
