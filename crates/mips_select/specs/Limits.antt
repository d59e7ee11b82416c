-- The frames of functions and the limits of the stack, and at most how many blocks a unit has.
use Rattle.std.specs.Prelude.{◌≡◌, ℕ, ◌+◌, ◌*◌, ◌/◌, ◌≤◌, ◌<◌, List, [], ◌∷◌, length, max, Option, None, Some}
use Rattle.mblock.specs.declared.limits.TheConstants.{BLOCK_INSTS}
use Rattle.rtl.specs.declared.instruction.RExit.{RExit}
use Rattle.rtl.specs.declared.instruction.RExit.TheVariants.{Call}
use Rattle.rtl.specs.declared.block.RBlock.{RBlock}
use Rattle.rtl.specs.declared.block.RFunc.{RFunc}
use Rattle.rtl.specs.Names.{how_many}
use Rattle.rtl.specs.Programs.{Program, block_count}
use Rattle.mips_homes.specs.declared.homed.Frame.{Frame}
use Rattle.mips_emit.specs.declared.limits.TheConstants.{FRAME_BYTES}
use Rattle.mips_select.specs.declared.limits.TheConstants.{STACK_BYTES}

-- a word for each pseudo-register (its slot, or where the register that is its home is saved), and one for the link
abbrev pub frame_bytes_of : RFunc → ℕ
frame_bytes_of func = 4 * (how_many func + 1)

abbrev pub largest_frame : List RFunc → ℕ
largest_frame [] = 0
largest_frame (func ∷ funcs) = max (frame_bytes_of func) (largest_frame funcs)

-- each frame is within reach of its instructions, and so many frames fit the stack
pub record FramesFit (p : Program) (depth : ℕ) : Type 0 where
  pub frames : largest_frame p.functions ≤ FRAME_BYTES
  pub stack : depth * largest_frame p.functions ≤ STACK_BYTES

-- the same by the homes of frames
abbrev pub largest_by_homes : List Frame → ℕ
largest_by_homes [] = 0
largest_by_homes (f ∷ fs) = max (4 * (length f.homes.items + 1)) (largest_by_homes fs)

-- the largest one, where none is too large
abbrev pub IsLargest : List Frame → Option ℕ → Type 0
IsLargest fs None = FRAME_BYTES < largest_by_homes fs
IsLargest fs (Some n) = (n ≡ largest_by_homes fs) × (n ≤ FRAME_BYTES)

pub record HaveRoom (fs : List Frame) (depth : ℕ) : Type 0 where
  pub frames : largest_by_homes fs ≤ FRAME_BYTES
  pub stack : depth * largest_by_homes fs ≤ STACK_BYTES

-- at most how many blocks a unit has for a function with so many blocks and instructions. There are two for each block and one before them.
-- Their instructions are at most 14 for the function, 14 for each block, and 8 for each instruction; and long ones are cut
abbrev pub most_blocks : (blocks insts : ℕ) → ℕ
most_blocks blocks insts = 1 + 2 * blocks + (14 + 14 * blocks + 8 * insts) / BLOCK_INSTS

abbrev pub insts_in : List RBlock → ℕ
insts_in [] = 0
insts_in (b ∷ bs) = length b.insts.items + insts_in bs

-- a block has one, and a second after it only if it ends with a call
abbrev pub exit_blocks : RExit → ℕ
exit_blocks (Call g xs d next) = 2
exit_blocks _ = 1

abbrev pub exits_blocks : List RBlock → ℕ
exits_blocks [] = 0
exits_blocks (b ∷ bs) = exit_blocks b.exit + exits_blocks bs

abbrev pub most_blocks_of : RFunc → ℕ
most_blocks_of func = most_blocks (block_count func) (insts_in func.blocks.items)

-- for functions
abbrev pub most_blocks_for : List RFunc → ℕ
most_blocks_for [] = 0
most_blocks_for (func ∷ funcs) = most_blocks_of func + most_blocks_for funcs

-- the same by how blocks end
abbrev pub most_by_exits : RFunc → ℕ
most_by_exits func =
    1 + exits_blocks func.blocks.items + (14 + 14 * block_count func + 8 * insts_in func.blocks.items) / BLOCK_INSTS

abbrev pub most_by_exits_for : List RFunc → ℕ
most_by_exits_for [] = 0
most_by_exits_for (func ∷ funcs) = most_by_exits func + most_by_exits_for funcs
