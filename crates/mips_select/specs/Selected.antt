-- Which blocks stand for a program over homes, whatever their numbers.
use Rattle.std.specs.Prelude.{◌≡◌, ◌≢◌, ◌⊎◌, ℕ, zero, suc, ◌*◌, ◌≤◌, Bool, false, List, [], ◌∷◌, Option, Some, slice_get}
use Rattle.runs.specs.declared.ran.End.TheVariants.{Wrong}
use Rattle.mips_isa.specs.declared.inst.Plain.{Plain}
use Rattle.mips_isa.specs.Starting.{start_state}
use Rattle.mblock.specs.Parts.{BlockParts}
use Rattle.mblock.specs.UnitRuns.{ComesTo}
use Rattle.rtl.specs.declared.instruction.RExit.{RExit}
use Rattle.rtl.specs.declared.instruction.RExit.TheVariants.{Goto, Branch, Call, Return, Out}
use Rattle.rtl.specs.declared.block.RBlock.{RBlock}
use Rattle.rtl.specs.declared.block.RFunc.{RFunc}
use Rattle.rtl.specs.declared.limits.TheConstants.{MAX_PARAMETERS}
use Rattle.rtl.specs.Programs.{IsProgram}
use Rattle.mips_homes.specs.declared.homed.Frame.{Frame}
use Rattle.mips_homes.specs.declared.homed.Homed.{Homed}
use Rattle.mips_homes.specs.declared.convention.TheConstants.{FIRST_ARGUMENT, FIRST_TEMPORARY}
use Rattle.mips_homes.specs.HomedRun.{homed_run}
use Rattle.mips_emit.specs.declared.limits.TheConstants.{FRAME_BYTES}
use Rattle.mips_homes.specs.declared.homed.Home.{Home}
use Rattle.mips_homes.specs.declared.homed.Home.TheVariants.{Reg, Copied}
use Rattle.mips_emit.specs.Locations.{Locations, locations}
use Rattle.mips_emit.specs.Frames.{HaveNoCopies, IsFrame}
use Rattle.mips_select.specs.declared.limits.TheConstants.{STACK_BYTES}
use Rattle.mips_select.specs.Data.{padded_bytes, start_of}
use Rattle.mips_select.specs.Plans.{Linking, Placing, placing_of}
use Rattle.mips_select.specs.Code.{result_code, prologue, own_block, after_block, prologue_block, start_block, end_block}

-- an argument that is moved into register t isn't in a register that an earlier one was moved into
abbrev pub IsBehind : Option Home → ℕ → Type 0
IsBehind (Some (Reg r)) t = t ≤ r
IsBehind (Some (Copied r k)) t = FIRST_TEMPORARY ≤ r
IsBehind _ t = Unit {0}

abbrev pub AreInOrder : Locations → (t : ℕ) → List ℕ → Type 0
AreInOrder at t [] = Unit {0}
AreInOrder at t (x ∷ xs) = IsBehind (at x) t × AreInOrder at (suc t) xs

-- a parameter that comes in register t doesn't go to a register in which a later one comes
abbrev pub IsClear : Option Home → ℕ → Type 0
IsClear (Some (Reg r)) t = (r ≤ t) ⊎ (FIRST_TEMPORARY ≤ r)
IsClear (Some (Copied r k)) t = FIRST_TEMPORARY ≤ r
IsClear _ t = Unit {0}

abbrev pub AreClear : Locations → (t x n : ℕ) → Type 0
AreClear at t x zero = Unit {0}
AreClear at t x (suc n) = IsClear (at x) t × AreClear at (suc t) (suc x) n

-- wherever the program isn't wrong after r steps, the blocks come to the same after r items or more
abbrev pub KeepHomedRuns : Homed → (depth : ℕ) → List BlockParts → Type 0
KeepHomedRuns h depth blocks =
    (r : ℕ) → (homed_run h depth r).end ≢ Wrong → ComesTo blocks (start_state (padded_bytes (h.rtl.now).globals)) r (homed_run h depth r)

module _ (blocks : List BlockParts) (l : Linking) where
  -- what an exit needs: a leaf has no calls, and no argument is lost before it is moved. A block to which it goes has no head. But a call
  -- may go on at a block that begins with the store of its result
  abbrev pub GoesOn : Placing → (head : ℕ → List Plain) → ℕ → RExit → Type 0
  GoesOn p head n (Call g xs d next) =
      ((p.leaf ≡ false) × AreInOrder (locations p.frame) FIRST_ARGUMENT xs.items)
      × (((slice_get blocks n ≡ Some (after_block p.frame d (p.place next))) × (head next ≡ []))
      ⊎ ((n ≡ p.place next) × (head next ≡ result_code (locations p.frame) d)))
  GoesOn p head n (Goto b) = head b ≡ []
  GoesOn p head n (Branch c t e) = (head t ≡ []) × (head e ≡ [])
  GoesOn p head n (Return o) = Unit {0}
  GoesOn p head n (Out x next) = head next ≡ []

  -- a block stands for block b of a function
  pub record StandsAt (p : Placing) (head : ℕ → List Plain) (b : ℕ) (block : RBlock) : Type 0 where
    pub next : ℕ
    pub there : slice_get blocks (p.place b) ≡ Some (own_block l p (head b) next block)
    pub leads_on : GoesOn p head next block.exit

  pub record IsPlaced (p : Placing) (head : ℕ → List Plain) (bs : List RBlock) : Type 0 where
    pub by : (b : ℕ) (block : RBlock) → slice_get bs b ≡ Some block → StandsAt p head b block

  -- a function begins with its prologue: in a block of its own, or at the head of block 0
  pub record IsFunction (most : ℕ) (g : ℕ) (func : RFunc) (f : Frame) : Type 0 where
    pub leaf : Bool
    pub place : ℕ → ℕ
    pub head : ℕ → List Plain
    pub first : ((slice_get blocks (l.entry g) ≡ Some (prologue_block leaf f func.parameters (place 0))) × (head 0 ≡ []))
        ⊎ ((l.entry g ≡ place 0) × (head 0 ≡ prologue leaf f func.parameters))
    pub placed : IsPlaced (placing_of leaf f place) head func.blocks.items
    pub frame : IsFrame most f
    pub parameters : func.parameters ≤ MAX_PARAMETERS
    pub clear : AreClear (locations f) FIRST_ARGUMENT 0 func.parameters
    pub alone : leaf ≡ false → HaveNoCopies f.homes.items

pub record IsSelected (h : Homed) (depth : ℕ) (blocks : List BlockParts) : Type 0 where
  pub entry : ℕ → ℕ
  pub most : ℕ
  pub program : IsProgram h.rtl.now
  pub start : slice_get blocks 0 ≡ Some (start_block (entry (h.rtl.now).main))
  pub end : slice_get blocks 1 ≡ Some end_block
  pub functions : (g : ℕ) (func : RFunc) (f : Frame) → slice_get (h.rtl.now).functions g ≡ Some func → slice_get h.frames.items g ≡ Some f
      → IsFunction blocks (record { globals = (h.rtl.now).globals; starts = start_of (h.rtl.now).globals; entry = entry }) most g func f
  pub small : most ≤ FRAME_BYTES
  pub room : depth * most ≤ STACK_BYTES
