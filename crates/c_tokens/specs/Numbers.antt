-- The numbers that the limits of src/sizes.rt are.
use Rattle.std.specs.Prelude.{◌≡◌}
use Rattle.c_tokens.specs.declared.sizes.TheConstants.{MAX_TEXT, MAX_RUN, MAX_OPEN, MAX_NESTED}

abbrev pub LimitsAreTheseNumbers : Type 0
LimitsAreTheseNumbers = (MAX_TEXT ≡ 1048576) × (MAX_RUN ≡ 1024) × (MAX_OPEN ≡ 128) × (MAX_NESTED ≡ 512)
