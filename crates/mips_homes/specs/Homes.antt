-- When homes serve a program.
use Rattle.std.specs.Prelude.{◌≡◌, ℕ, ◌<◌, true, false, List, [], ◌∷◌, Some, slice_get}
use Rattle.rtl.specs.Names.{blocks_names}
use Rattle.mips_homes.specs.HomedRun.{is_in, is_callee_saved}
use Rattle.mips_homes.specs.Locals.{block_reads_first, some_go_to}
use Rattle.mips_homes.specs.declared.homed.Home.{Home}
use Rattle.mips_homes.specs.declared.homed.Home.TheVariants.{Reg, Slot, Copied}
use Rattle.mips_homes.specs.declared.homed.Frame.{Frame}
use Rattle.mips_homes.specs.declared.homed.Homed.{Homed}
use Rattle.rtl.specs.declared.block.RBlock.{RBlock}
use Rattle.rtl.specs.declared.block.RFunc.{RFunc}

-- a pseudo-register has a home
pub record HasHome (homes : List Home) (x : ℕ) : Type 0 where
  pub home : Home
  pub is : slice_get homes x ≡ Some home

-- the cell of a home, without the copy
abbrev pub cell : Home → Home
cell (Reg r) = Reg r
cell (Slot k) = Slot k
cell (Copied r k) = Slot k

-- no two pseudo-registers share a cell
abbrev pub AreApart : List Home → Type 0
AreApart homes = (x y : ℕ) (h g : Home) → slice_get homes x ≡ Some h → slice_get homes y ≡ Some g → cell h ≡ cell g → x ≡ y

-- each of these has a home
abbrev pub HaveHomes : List Home → List ℕ → Type 0
HaveHomes homes [] = Unit {0}
HaveHomes homes (x ∷ xs) = HasHome homes x × HaveHomes homes xs

-- no two pseudo-registers share a cell; each callee-saved register that is a home is saved. In another register lives only what each block
-- to which an exit goes writes before it reads it; and each name has a home
pub record AreHomes (homes : List Home) (saved : List ℕ) (blocks : List RBlock) : Type 0 where
  pub apart : AreApart homes
  pub kept : (x r : ℕ) → slice_get homes x ≡ Some (Reg r) → is_callee_saved r ≡ true → is_in saved r ≡ true
  pub local : (x r : ℕ) → slice_get homes x ≡ Some (Reg r) → is_callee_saved r ≡ false
      → (b : ℕ) (block : RBlock) → slice_get blocks b ≡ Some block → some_go_to blocks b ≡ true → block_reads_first block x ≡ false
  pub named : HaveHomes homes (blocks_names blocks)

-- the homes of a frame serve a function, whose parameters have homes too
pub record Serves (frame : Frame) (func : RFunc) : Type 0 where
  pub homes : AreHomes frame.homes.items frame.saved.items func.blocks.items
  pub parameters : (x : ℕ) → x < func.parameters → HasHome frame.homes.items x

-- a frame for each function that serves it
pub record AreAllHomes (h : Homed) : Type 0 where
  pub by : (i : ℕ) (func : RFunc) → slice_get (h.rtl.now).functions i ≡ Some func
      → (frame : Frame) × (slice_get h.frames.items i ≡ Some frame) × Serves frame func
