-- The numbers that the limits of src/limits.rt are.
use Rattle.std.specs.Prelude.{◌≡◌}
use Rattle.image.specs.declared.limits.TheConstants.{CODE_WORDS, DATA_BYTES, COUNTED_BLOCKS}

abbrev pub LimitsAreTheseNumbers : Type 0
LimitsAreTheseNumbers = (CODE_WORDS ≡ 1048576) × (DATA_BYTES ≡ 1048576) × (COUNTED_BLOCKS ≡ 1048576)
