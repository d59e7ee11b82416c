-- Which functions and globals are a program: what is named is there, and the sizes are within the limits.
use Rattle.std.specs.Prelude.{◌≡◌, ℕ, ◌<◌, ◌≤◌, List, Option, Some, None, All, length, slice_get, sum_by}
use Rattle.words.specs.Widths.{words_of_elements}
use Rattle.rtl.specs.declared.instruction.RInst.{RInst}
use Rattle.rtl.specs.declared.instruction.RInst.TheVariants.{Const, Move, Bin, Load, Store}
use Rattle.rtl.specs.declared.instruction.RExit.{RExit}
use Rattle.rtl.specs.declared.instruction.RExit.TheVariants.{Goto, Branch, Call, Return, Out}
use Rattle.rtl.specs.declared.block.RBlock.{RBlock}
use Rattle.rtl.specs.declared.block.RFunc.{RFunc}
use Rattle.rtl.specs.declared.block.RGlobal.{RGlobal}
use Rattle.rtl.specs.declared.limits.TheConstants.{MAX_PARAMETERS, MAX_REGISTERS, MAX_BLOCKS, MAX_GLOBAL_WORDS}

-- the functions, the globals, and the number of the function that is run
pub record Program : Type 0 where
  pub functions : List RFunc
  pub globals : List RGlobal
  pub main : ℕ

abbrev pub program_of : List RFunc → List RGlobal → ℕ → Program
program_of functions globals main = record { functions = functions; globals = globals; main = main }

-- the number of a pseudo-register
abbrev pub IsRegister : ℕ → Type 0
IsRegister x = x < MAX_REGISTERS

-- of a program with so many globals
abbrev pub IsInst : (globals : ℕ) → RInst → Type 0
IsInst globals (Const d w) = IsRegister d
IsInst globals (Move d a) = IsRegister d × IsRegister a
IsInst globals (Bin op d a b) = IsRegister d × (IsRegister a × IsRegister b)
IsInst globals (Load d g i) = IsRegister d × ((g < globals) × IsRegister i)
IsInst globals (Store g i a) = (g < globals) × (IsRegister i × IsRegister a)

-- the register of a value that may be absent
abbrev pub IsMaybeRegister : Option ℕ → Type 0
IsMaybeRegister None = Unit {0}
IsMaybeRegister (Some x) = IsRegister x

-- a function that is there, with so many parameters
pub record IsCallee (functions : List RFunc) (f count : ℕ) : Type 0 where
  pub callee : RFunc
  pub there : slice_get functions f ≡ Some callee
  pub takes : callee.parameters ≡ count

-- of a program with these functions, in a function with so many blocks
abbrev pub IsExit : List RFunc → (blocks : ℕ) → RExit → Type 0
IsExit functions blocks (Goto b) = b < blocks
IsExit functions blocks (Branch a t e) = IsRegister a × ((t < blocks) × (e < blocks))
IsExit functions blocks (Call f args d next) =
    IsCallee functions f (length args.items) × (All IsRegister args.items × (IsMaybeRegister d × (next < blocks)))
IsExit functions blocks (Return a) = IsMaybeRegister a
IsExit functions blocks (Out a next) = IsRegister a × (next < blocks)

pub record IsBlock (functions : List RFunc) (globals blocks : ℕ) (b : RBlock) : Type 0 where
  pub insts : All (IsInst globals) b.insts.items
  pub exit : IsExit functions blocks b.exit

-- it has an entry
pub record IsFunction (functions : List RFunc) (globals : ℕ) (f : RFunc) : Type 0 where
  pub parameters : f.parameters ≤ MAX_PARAMETERS
  pub entry : 0 < length f.blocks.items
  pub blocks : All (IsBlock functions globals (length f.blocks.items)) f.blocks.items

-- as many first values as it has elements, and one at least
pub record IsGlobal (g : RGlobal) : Type 0 where
  pub some : 0 < g.length
  pub first : length g.first.items ≡ g.length

abbrev pub block_count : RFunc → ℕ
block_count f = length f.blocks.items

abbrev pub word_count : RGlobal → ℕ
word_count g = words_of_elements g.width g.length

-- what is run takes no arguments
pub record IsProgram (p : Program) : Type 0 where
  pub functions : All (IsFunction p.functions (length p.globals)) p.functions
  pub globals : All IsGlobal p.globals
  pub main : IsCallee p.functions p.main 0
  pub blocks_fit : sum_by block_count p.functions ≤ MAX_BLOCKS
  pub words_fit : sum_by word_count p.globals ≤ MAX_GLOBAL_WORDS
