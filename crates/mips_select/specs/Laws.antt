-- The theorem of selection.
use Rattle.std.specs.Prelude.{◌≡◌, ◌≢◌, ◌<◌, ◌≤◌, ◌+◌, ℕ, List, length}
use Rattle.runs.specs.declared.ran.End.TheVariants.{Wrong}
use Rattle.mips_isa.specs.Starting.{start_state}
use Rattle.mblock.specs.declared.limits.TheConstants.{UNIT_BLOCKS}
use Rattle.mblock.specs.UnitRuns.{ComesTo}
use Rattle.mblock.specs.Units.{UnitParts}
use Rattle.rtl.specs.Programs.{Program, IsProgram}
use Rattle.rtl.specs.Meaning.{rtl_run}
use Rattle.mips_homes.specs.declared.homed.Homed.{Homed}
use Rattle.mips_homes.specs.Places.{ArePlaced}
use Rattle.mips_select.specs.Limits.{FramesFit, most_blocks_for, most_by_exits_for}
use Rattle.mips_select.specs.Whole.{unit_for, block_numbers}

-- at every bound after which the program isn't wrong, the unit comes to the same end and output in as many items or more
abbrev pub KeepsRuns : Program → (depth : ℕ) → UnitParts → Type 0
KeepsRuns p depth u =
    (r : ℕ) → (rtl_run p depth r).end ≢ Wrong → ComesTo u.blocks (start_state u.globals) r (rtl_run p depth r)

-- the unit of every program whose frames fit keeps its runs
abbrev pub EachUnitKeepsRuns : Type 0
EachUnitKeepsRuns = (h : Homed) (depth : ℕ) → IsProgram h.rtl.now → ArePlaced h → FramesFit h.rtl.now depth
    → KeepsRuns h.rtl.now depth (unit_for h)

-- the unit of a program over its homes: its blocks, whose each one is, and its data
pub record IsSelected (p : Program) (u : UnitParts) : Type 0 where
  pub homed : Homed
  pub lent : homed.rtl.now ≡ p
  pub places : ArePlaced homed
  pub unit : u ≡ unit_for homed

-- such a unit, and the numbers of its blocks with which the blocks of the program begin
pub record IsNumbered (p : Program) (u : UnitParts) (numbers : List ℕ) : Type 0 where
  pub selected : IsSelected p u
  pub begin : numbers ≡ block_numbers selected.homed

-- the unit of a program over its homes would have too many blocks
pub record IsBeyond (p : Program) : Type 0 where
  pub homed : Homed
  pub lent : homed.rtl.now ≡ p
  pub choices : ArePlaced homed
  pub many : UNIT_BLOCKS < length (unit_for homed).blocks

-- the unit of every program has at most two blocks beside those that are counted for its functions, whatever its homes are
abbrev pub EachUnitIsCounted : Type 0
EachUnitIsCounted = (h : Homed) → IsProgram h.rtl.now → ArePlaced h
    → length (unit_for h).blocks ≤ 2 + most_blocks_for (h.rtl.now).functions

-- and so it is by how blocks end
abbrev pub EachUnitIsCountedByExits : Type 0
EachUnitIsCountedByExits = (h : Homed) → IsProgram h.rtl.now → ArePlaced h
    → length (unit_for h).blocks ≤ 2 + most_by_exits_for (h.rtl.now).functions
