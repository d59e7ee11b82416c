-- The numbers that the limits of src/limits.rt are.
use Rattle.std.specs.Prelude.{◌≡◌}
use Rattle.mblock.specs.declared.limits.TheConstants.{BLOCK_INSTS, ORDER_INSTS, UNIT_BLOCKS, UNIT_BYTES}

abbrev pub LimitsAreTheseNumbers : Type 0
LimitsAreTheseNumbers = (BLOCK_INSTS ≡ 512) × (ORDER_INSTS ≡ 2048) × (UNIT_BLOCKS ≡ 1048576) × (UNIT_BYTES ≡ 1048576)
