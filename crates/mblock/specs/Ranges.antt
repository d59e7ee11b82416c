-- The ranges of an exit's fields. In specs a variable ranges over every number.
use Rattle.std.specs.Prelude.{◌<◌}
use Rattle.mblock.specs.declared.limits.TheConstants.{UNIT_BLOCKS}
use Rattle.mblock.specs.declared.exit.Exit.{Exit}
use Rattle.mblock.specs.declared.exit.Exit.TheVariants.{Goto, BranchPair, BranchZero, Call, Return, Out, Halt}

abbrev pub IsExit : Exit → Type 0
IsExit (Goto t) = t < UNIT_BLOCKS
IsExit (BranchPair test rs rt then other) = (rs < 32) × (rt < 32) × (then < UNIT_BLOCKS) × (other < UNIT_BLOCKS)
IsExit (BranchZero test rs then other) = (rs < 32) × (then < UNIT_BLOCKS) × (other < UNIT_BLOCKS)
IsExit (Call function next) = (function < UNIT_BLOCKS) × (next < UNIT_BLOCKS)
IsExit Return = Unit {0}
IsExit (Out next) = next < UNIT_BLOCKS
IsExit Halt = Unit {0}
