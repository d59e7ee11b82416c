-- The numbers that the limits of src/limits.rt are.
use Rattle.std.specs.Prelude.{◌≡◌}
use Rattle.term_table.specs.declared.limits.TheConstants.{MAX_PASSES, MAX_NODES, MAX_HEADS, LARGE_MAX_NODES, LARGE_MAX_HEADS}

abbrev pub LimitsAreTheseNumbers : Type 0
LimitsAreTheseNumbers =
    (MAX_PASSES ≡ 64) × (MAX_NODES ≡ 1048576) × (MAX_HEADS ≡ 65536) × (LARGE_MAX_NODES ≡ 268435456) × (LARGE_MAX_HEADS ≡ 16777216)
