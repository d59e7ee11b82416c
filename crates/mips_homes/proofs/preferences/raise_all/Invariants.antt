use Rattle.std.proofs.Common.{◌≡◌, ℕ, drop}
use Rattle.std.specs.Prelude.{max, slice_index}
use Rattle.mips_homes.specs.Preferences.{reach_from}
use Rattle.mips_homes.proofs.preferences.raise_all.Given as goal

abbrev pub invariant-loop-i : goal.invariant-loop-i
invariant-loop-i l = (y : ℕ) → max (slice_index l.reaches.items y) (reach_from l.i (drop l.i l.xs) y)
    ≡ max (slice_index l.fn.reaches.items y) (reach_from 0 l.xs y)
