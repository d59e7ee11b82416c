-- The numbers that the limits of src/limits.rt are.
use Rattle.std.specs.Prelude.{◌≡◌}
use Rattle.mips_emit.specs.declared.limits.TheConstants.{FRAME_BYTES}

abbrev pub LimitsAreTheseNumbers : Type 0
LimitsAreTheseNumbers = FRAME_BYTES ≡ 32000
