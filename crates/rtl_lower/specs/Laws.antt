-- The theorem of the lowering.
use Rattle.std.specs.Prelude.{◌≡◌, ℕ, ◌≤◌, List}
use Rattle.runs.specs.Refines.{Refines, AtLeast, Same}
use Rattle.c_typed.specs.Trees.{TypedFunction, TypedProgram}
use Rattle.c_typed.specs.Meaning.{source_run}
use Rattle.rtl.specs.Names.{how_many}
use Rattle.rtl.specs.Programs.{Program, block_count}
use Rattle.rtl.specs.Meaning.{rtl_run}
use Rattle.rtl.specs.declared.block.RFunc.{RFunc}
use Rattle.rtl_lower.specs.Coded.{ArePairs}
use Rattle.rtl_emit.specs.Blocks.{insts_in}
use Rattle.rtl_lower.specs.Sizes.{function_registers, function_blocks, function_insts}

-- take any bound on active calls and on steps at which the source isn't wrong. RTL has the same end and output at some bound on steps that
-- is no less
abbrev pub KeepsRuns : TypedProgram → Program → Type 0
KeepsRuns p r = (depth : ℕ) → 1 ≤ depth → Refines AtLeast Same (source_run p depth) (rtl_run r depth)

-- a function has no more pseudo-registers and instructions than are counted on the typed one, and as many blocks
pub record IsOfSize (f : TypedFunction) (r : RFunc) : Type 0 where
  pub registers : how_many r ≤ function_registers f
  pub blocks : block_count r ≡ function_blocks f
  pub insts : insts_in r.blocks.items ≤ function_insts f

-- each function of RTL, in the order of the typed ones
abbrev pub AreOfSizes : List TypedFunction → List RFunc → Type 0
AreOfSizes fs rs = ArePairs IsOfSize fs rs
