-- Frames that machine code can reach: the homes of a function's pseudo-registers, the registers that it saves, and its slots.
use Rattle.std.specs.Prelude.{◌≡◌, ℕ, ◌+◌, ◌*◌, ◌<◌, ◌≤◌, Bool, true, false, List, Some, length, slice_get}
use Rattle.std.specs.Coded.{×_prop, le_prop}
use Rattle.mips_homes.specs.declared.homed.Home.{Home}
use Rattle.mips_homes.specs.declared.homed.Home.TheVariants.{Reg, Slot, Copied}
use Rattle.mips_homes.specs.declared.homed.Frame.{Frame}
use Rattle.mips_homes.specs.Homes.{AreApart}
use Rattle.mips_homes.specs.declared.convention.TheConstants.{FIRST_TEMPORARY, GLOBAL_POINTER}
use Rattle.mips_homes.specs.Convention.{IsAllocatable, IsCalleeSaved, is_callee_saved}
use Rattle.mips_emit.specs.declared.limits.TheConstants.{FRAME_BYTES}

-- a register, or one of so many slots
abbrev pub IsHome : (slots : ℕ) → Home → Type 0
IsHome slots (Reg r) = IsAllocatable r
IsHome slots (Slot k) = k < slots
IsHome slots (Copied r k) = k < slots

-- so a type can keep that a frame is within reach
pub IsHome-prop : (slots : ℕ) (h : Home) → IsProp (IsHome slots h)
IsHome-prop slots (Reg r) = ×_prop le_prop le_prop
IsHome-prop slots (Slot k) = le_prop
IsHome-prop slots (Copied r k) = le_prop

-- copies of slots are in temporaries, each in its own, and none is a home
pub record AreCopies (homes : List Home) : Type 0 where
  pub range : (x r k : ℕ) → slice_get homes x ≡ Some (Copied r k) → (FIRST_TEMPORARY ≤ r) × (r < GLOBAL_POINTER)
  pub caller_saved : (x r k : ℕ) → slice_get homes x ≡ Some (Copied r k) → is_callee_saved r ≡ false
  pub once : (x y r j k : ℕ) → slice_get homes x ≡ Some (Copied r j) → slice_get homes y ≡ Some (Copied r k) → x ≡ y
  pub idle : (x y r k : ℕ) → slice_get homes x ≡ Some (Reg r) → slice_get homes y ≡ Some (Copied r k) → ⊥

abbrev pub HaveNoCopies : List Home → Type 0
HaveNoCopies homes = (x r k : ℕ) → slice_get homes x ≡ Some (Copied r k) → ⊥

-- homes in a frame with so many slots, and no two pseudo-registers share a cell
pub record AreFrameHomes (homes : List Home) (slots : ℕ) : Type 0 where
  pub by : (x : ℕ) (h : Home) → slice_get homes x ≡ Some h → IsHome slots h
  pub apart : AreApart homes
  pub copied : AreCopies homes

-- the words that a frame has for the link: none in a leaf, which is a function without calls
abbrev pub link_words : (leaf : Bool) → ℕ
link_words true = 0
link_words false = 1

-- homes are registers and slots of the frame, callee-saved registers are saved, and the frame has at most so many bytes: a word for each
-- slot, for each register that is saved, and for the link
pub record IsFrame (most : ℕ) (f : Frame) : Type 0 where
  pub homes : AreFrameHomes f.homes.items f.slots
  pub saved : (j r : ℕ) → slice_get f.saved.items j ≡ Some r → IsCalleeSaved r
  pub fits : 4 * (f.slots + length f.saved.items + 1) ≤ most

-- within reach of the stack pointer
abbrev pub IsReachable : Frame → Type 0
IsReachable f = IsFrame FRAME_BYTES f
