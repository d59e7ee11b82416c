-- The numbers that the limits of src/limits.rt are.
use Rattle.std.specs.Prelude.{◌≡◌}
use Rattle.rtl.specs.declared.limits.TheConstants.{MAX_PARAMETERS, MAX_REGISTERS, MAX_BLOCKS, MAX_GLOBAL_WORDS}

abbrev pub LimitsAreTheseNumbers : Type 0
LimitsAreTheseNumbers = (MAX_PARAMETERS ≡ 4) × (MAX_REGISTERS ≡ 8000) × (MAX_BLOCKS ≡ 1048575) × (MAX_GLOBAL_WORDS ≡ 262144)
