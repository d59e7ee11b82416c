-- The numbers that the limits of src/limits.rt are.
use Rattle.std.specs.Prelude.{◌≡◌}
use Rattle.c_typed.specs.declared.limits.TheConstants.{MAX_PARAMETERS, MAX_LOCALS, MAX_FUNCTIONS, MAX_GLOBAL_WORDS}

abbrev pub LimitsAreTheseNumbers : Type 0
LimitsAreTheseNumbers = (MAX_PARAMETERS ≡ 4) × (MAX_LOCALS ≡ 128) × (MAX_FUNCTIONS ≡ 256) × (MAX_GLOBAL_WORDS ≡ 262144)
