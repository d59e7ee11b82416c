-- The numbers that the limits of src/limits.rt are.
use Rattle.std.specs.Prelude.{◌≡◌}
use Rattle.mips_select.specs.declared.limits.TheConstants.{STACK_BYTES}

abbrev pub LimitsAreTheseNumbers : Type 0
LimitsAreTheseNumbers = STACK_BYTES ≡ 16777216
