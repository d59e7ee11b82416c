-- The theorems of splitting.
use Rattle.std.specs.Prelude.{◌≡◌, ℕ, ◌≤◌, List, length, Some, slice_get}
use Rattle.mips_isa.specs.States.{State}
use Rattle.runs.specs.Runs.{Outcome}
use Rattle.mblock.specs.declared.limits.TheConstants.{BLOCK_INSTS}
use Rattle.mblock.specs.Parts.{BlockParts}
use Rattle.mblock.specs.UnitRuns.{unit_run, TellsApart, ComesTo}
use Rattle.mblock.specs.Units.{AreLinked, AreOwners}
use Rattle.mips_select.specs.Split.{split_blocks, split_owners, long_links}

-- for any number of items of the long unit, its pieces have the same end and output after as many items or more
abbrev pub EachSplitUnitRuns : Type 0
EachSplitUnitRuns = (blocks : List BlockParts) → AreLinked blocks → (links : ℕ → ℕ) → TellsApart links (split_blocks blocks)
    → TellsApart (long_links blocks links) blocks
    × ((s : State) (i : ℕ) → (j : ℕ) × (i ≤ j) × (unit_run (split_blocks blocks) links s j ≡ unit_run blocks (long_links blocks links) s i))

-- what a long unit comes to, its pieces come to
abbrev pub EachSplitUnitComesTo : Type 0
EachSplitUnitComesTo = (blocks : List BlockParts) → AreLinked blocks → (s : State) (r : ℕ) (end : Outcome)
    → ComesTo blocks s r end → ComesTo (split_blocks blocks) s r end

-- pieces are short, go to blocks that exist, and keep their functions together
pub record IsSplitWell (blocks : List BlockParts) (owner : List ℕ) : Type 0 where
  pub short : (i : ℕ) (b : BlockParts) → slice_get (split_blocks blocks) i ≡ Some b → length b.insts ≤ BLOCK_INSTS
  pub linked : AreLinked (split_blocks blocks)
  pub owners : AreOwners (split_blocks blocks) (split_owners blocks owner)
  pub some : length blocks ≤ length (split_blocks blocks)

abbrev pub EachSplitUnitIsWell : Type 0
EachSplitUnitIsWell = (blocks : List BlockParts) (owner : List ℕ) → AreLinked blocks → AreOwners blocks owner → IsSplitWell blocks owner
