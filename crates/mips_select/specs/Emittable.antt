-- What the code of a block asks of it.
use Rattle.std.specs.Prelude.{◌≡◌, ℕ, ◌≤◌, List, All, length, Some, slice_get}
use Rattle.rtl.specs.declared.instruction.RExit.{RExit}
use Rattle.rtl.specs.declared.instruction.RExit.TheVariants.{Call}
use Rattle.rtl.specs.declared.block.RBlock.{RBlock}
use Rattle.rtl.specs.declared.block.RFunc.{RFunc}
use Rattle.rtl.specs.declared.limits.TheConstants.{MAX_BLOCKS, MAX_PARAMETERS}
use Rattle.rtl.specs.Programs.{IsInst}
use Rattle.mips_homes.specs.declared.homed.Frame.{Frame}
use Rattle.mips_emit.specs.Frames.{IsReachable}

abbrev pub HasFewArguments : RExit → Type 0
HasFewArguments (Call g xs d next) = length xs.items ≤ MAX_PARAMETERS
HasFewArguments _ = Unit {0}

-- its instructions name globals that are there, and a call has few arguments
pub record IsEmittable (globals : ℕ) (b : RBlock) : Type 0 where
  pub insts : All (IsInst globals) b.insts.items
  pub exit : HasFewArguments b.exit

-- of each block
pub record AreEmittable (globals : ℕ) (bs : List RBlock) : Type 0 where
  pub by : (b : ℕ) (block : RBlock) → slice_get bs b ≡ Some block → IsEmittable globals block

pub record IsFunctionEmittable (globals : ℕ) (func : RFunc) : Type 0 where
  pub parameters : func.parameters ≤ MAX_PARAMETERS
  pub few : length func.blocks.items ≤ MAX_BLOCKS
  pub blocks : AreEmittable globals func.blocks.items

-- of each function
pub record AreFunctionsEmittable (globals : ℕ) (funcs : List RFunc) : Type 0 where
  pub by : (g : ℕ) (func : RFunc) → slice_get funcs g ≡ Some func → IsFunctionEmittable globals func

-- the first bytes of globals are inside the data
pub record AreInside (starts : List ℕ) (bound : ℕ) : Type 0 where
  pub by : (i v : ℕ) → slice_get starts i ≡ Some v → v ≤ bound

-- of each frame
pub record AreReachable (fs : List Frame) : Type 0 where
  pub by : (g : ℕ) (f : Frame) → slice_get fs g ≡ Some f → IsReachable f
