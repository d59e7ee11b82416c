-- The numbers that the limits of src/limits.rt are.
use Rattle.std.specs.Prelude.{◌≡◌}
use Rattle.mips_asm.specs.declared.limits.TheConstants.{FUNCTION_WORDS, CODE_WORDS}

abbrev pub LimitsAreTheseNumbers : Type 0
LimitsAreTheseNumbers = (FUNCTION_WORDS ≡ 32000) × (CODE_WORDS ≡ 1048576)
