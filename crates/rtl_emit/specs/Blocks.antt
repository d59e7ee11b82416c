-- Code that is being made, the blocks that it goes on at, and lists of blocks that grow.
use Rattle.std.specs.Prelude.{◌≡◌, ◌≢◌, ℕ, ◌+◌, ◌<◌, ◌≤◌, List, [], ◌∷◌, length, reverse, Some, slice_get}
use Rattle.rtl.specs.Meaning.{Code, code_of}
use Rattle.rtl.specs.declared.instruction.RInst.{RInst}
use Rattle.rtl.specs.declared.instruction.RExit.{RExit}
use Rattle.rtl.specs.declared.instruction.RExit.TheVariants as X
use Rattle.rtl.specs.declared.block.RBlock.{RBlock}
use Rattle.rtl_emit.specs.declared.block.OpenBlock.{OpenBlock}
use Rattle.rtl_emit.specs.declared.block.Continuation.{Continuation}
use Rattle.rtl_emit.specs.declared.block.Continuation.TheVariants as A

-- code that is being made, whose instructions are kept last first
abbrev pub open_code : OpenBlock → Code
open_code o = record { insts = reverse o.insts.items; exit = o.exit }

abbrev pub exit_code : RExit → Code
exit_code x = record { insts = []; exit = x }

abbrev pub goto : ℕ → Code
goto b = exit_code (X.Goto b)

-- an instruction before the others
abbrev pub first : RInst → Code → Code
first i c = record { insts = i ∷ c.insts; exit = c.exit }

-- where code goes on: at the start of a block, which may be jumped over, or at other code
pub data Spot : Type 0 where
  Block : ℕ → Spot
  Line : Code → Spot

abbrev pub spot : Continuation → Spot
spot (A.Jump b) = Block b
spot (A.Made o) = Line (open_code o)

-- the code that comes to a spot
abbrev pub line_of : Spot → Code
line_of (Block b) = goto b
line_of (Line c) = c

-- how many instructions code has, the code at a spot, and blocks; a block that begins at a spot has its own
abbrev pub insts_of : Code → ℕ
insts_of c = length c.insts

abbrev pub insts_at : Spot → ℕ
insts_at (Block b) = 0
insts_at (Line c) = insts_of c

abbrev pub insts_in : List RBlock → ℕ
insts_in [] = 0
insts_in (b ∷ bs) = length b.insts.items + insts_in bs

-- blocks become new ones, and code with `after` instructions code with `from`: at most so many more in all
abbrev pub Adds : (old new : List RBlock) (from after : ℕ) → ℕ → Type 0
Adds old new from after most = insts_in new + from ≤ insts_in old + after + most

-- a list of blocks has become longer
pub record Grows (old new : List RBlock) : Type 0 where
  pub longer : length old ≤ length new
  pub kept : (i : ℕ) → i < length old → slice_get new i ≡ slice_get old i

-- the blocks of a function have those of new that old doesn't have
pub record Has (bs old new : List RBlock) : Type 0 where
  pub by : (i : ℕ) → length old ≤ i → i < length new → slice_get bs i ≡ slice_get new i

-- this code is the block of this number
pub record At (bs : List RBlock) (b : ℕ) (c : Code) : Type 0 where
  pub block : RBlock
  pub there : slice_get bs b ≡ Some block
  pub is : code_of block ≡ c

-- a block that begins at a spot
abbrev pub Lands : List RBlock → ℕ → Spot → Type 0
Lands bs b (Block b') = b ≡ b'
Lands bs b (Line c) = At bs b c

-- one more block, which says nothing yet
pub record Reserves (old new : List RBlock) (b : ℕ) : Type 0 where
  pub number : b ≡ length old
  pub longer : length new ≡ length old + 1
  pub grows : Grows old new

-- one block is written again
pub record Fills (old new : List RBlock) (b : ℕ) (c : Code) : Type 0 where
  pub same_length : length new ≡ length old
  pub others : (i : ℕ) → i ≢ b → slice_get new i ≡ slice_get old i
  pub at : At new b c
