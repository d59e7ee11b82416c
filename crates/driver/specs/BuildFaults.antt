-- Why a text has no image.
use Rattle.std.specs.Prelude.{◌≢◌, ℕ, ◌+◌, ◌*◌, ◌≤◌, max, List, [], ◌∷◌}
use Rattle.c_typed.specs.Trees.{TypedFunction, TypedProgram}
use Rattle.c_types.specs.Typed.{SpellsTyped}
use Rattle.rtl_lower.specs.Sizes.{HaveRoom, function_registers, function_blocks, function_insts}
use Rattle.mips_emit.specs.declared.limits.TheConstants.{FRAME_BYTES}
use Rattle.mips_select.specs.declared.limits.TheConstants.{STACK_BYTES}
use Rattle.mips_select.specs.Limits.{most_blocks}
use Rattle.mblock.specs.declared.limits.TheConstants.{UNIT_BLOCKS}
use Rattle.mips_asm.specs.declared.limits.TheConstants.{FUNCTION_WORDS}
use Rattle.driver.specs.SourceFaults.{IsFaultless, IsSourceFault}
use Rattle.driver.specs.declared.builds.BuildFault.{BuildFault}
use Rattle.driver.specs.declared.builds.BuildFault.TheVariants as faults
use Rattle.driver.specs.declared.builds.Limit.{Limit}
use Rattle.driver.specs.declared.builds.Limit.TheVariants as limits

-- the bytes of a frame, by the counts of the typed function: a word for each pseudo-register, and one for the link
abbrev pub counted_frame : TypedFunction → ℕ
counted_frame f = 4 * (function_registers f + 1)

abbrev pub largest_counted : List TypedFunction → ℕ
largest_counted [] = 0
largest_counted (f ∷ fs) = max (counted_frame f) (largest_counted fs)

-- at most how many blocks of machine code: two to start and end, and those for the blocks and instructions of each function
abbrev pub function_counted : TypedFunction → ℕ
function_counted f = most_blocks (function_blocks f) (function_insts f)

abbrev pub functions_counted : List TypedFunction → ℕ
functions_counted [] = 0
functions_counted (f ∷ fs) = function_counted f + functions_counted fs

abbrev pub blocks_counted : List TypedFunction → ℕ
blocks_counted fs = 2 + functions_counted fs

-- by these counts each frame is small enough, so many frames fit the stack, and there aren't too many blocks
pub record FitSelection (depth : ℕ) (fs : List TypedFunction) : Type 0 where
  pub frames : largest_counted fs ≤ FRAME_BYTES
  pub stack : depth * largest_counted fs ≤ STACK_BYTES
  pub blocks : blocks_counted fs ≤ UNIT_BLOCKS

-- by these counts no function has too many words, and so neither has the program: the order of a block has at most 2,052
abbrev pub FitAssembly : List TypedFunction → Type 0
FitAssembly fs = 2052 * blocks_counted fs ≤ FUNCTION_WORDS

-- a program without faults whose functions don't fit so
pub record IsTooLong (Fit : List TypedFunction → Type 0) (text : List ℕ) : Type 0 where
  pub program : TypedProgram
  pub spelled : SpellsTyped text program
  pub beyond : Fit program.functions → ⊥

-- the limit that is exceeded, by what is counted on a program so many of whose calls may be active at once
abbrev pub Exceeds : List ℕ → (depth : ℕ) → Limit → Type 0
Exceeds text depth limits.Lowering = IsTooLong HaveRoom text
Exceeds text depth limits.Selection = IsTooLong (FitSelection depth) text
Exceeds text depth limits.Assembly = IsTooLong FitAssembly text

-- the text's own fault, or one of the program that it spells; a limit and lack of memory come only where that has none
abbrev pub IsBuildFault : List ℕ → (depth : ℕ) → BuildFault → Type 0
IsBuildFault text depth (faults.Source fault) = IsSourceFault text fault
IsBuildFault text depth (faults.Limit limit) = Exceeds text depth limit
IsBuildFault text depth faults.NoMemory = IsFaultless text

-- a limit comes at its stage: none of assembly before a unit is assembled, and none of selection before blocks are selected
abbrev pub IsBeforeAssembly : BuildFault → Type 0
IsBeforeAssembly fault = fault ≢ faults.Limit limits.Assembly

abbrev pub IsBeforeSelection : BuildFault → Type 0
IsBeforeSelection fault = (fault ≢ faults.Limit limits.Selection) × IsBeforeAssembly fault
