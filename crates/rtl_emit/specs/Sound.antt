-- Code that names only what is there, so that it may stand in a program.
use Rattle.std.specs.Prelude.{ℕ, ◌<◌, ◌≤◌, List, [], ◌∷◌, Option, Some, None, All, length}
use Rattle.rtl.specs.Programs.{IsCallee}
use Rattle.rtl.specs.Meaning.{Code, code_of}
use Rattle.rtl.specs.declared.instruction.RInst.{RInst}
use Rattle.rtl.specs.declared.instruction.RInst.TheVariants.{Const, Move, Bin, Load, Store}
use Rattle.rtl.specs.declared.instruction.RExit.{RExit}
use Rattle.rtl.specs.declared.instruction.RExit.TheVariants.{Goto, Branch, Call, Return, Out}
use Rattle.rtl.specs.declared.block.RBlock.{RBlock}
use Rattle.rtl.specs.declared.block.RFunc.{RFunc}
use Rattle.rtl_emit.specs.Blocks.{Spot, Block, Line}

-- what there is to name: so many registers, the functions, so many globals, and so many blocks of the same function
pub record Scope : Type 0 where
  pub registers : ℕ
  pub functions : List RFunc
  pub globals : ℕ
  pub blocks : ℕ

abbrev pub IsSoundInst : Scope → RInst → Type 0
IsSoundInst s (Const d w) = d < s.registers
IsSoundInst s (Move d a) = (d < s.registers) × (a < s.registers)
IsSoundInst s (Bin op d a b) = (d < s.registers) × ((a < s.registers) × (b < s.registers))
IsSoundInst s (Load d g i) = (d < s.registers) × ((g < s.globals) × (i < s.registers))
IsSoundInst s (Store g i a) = (g < s.globals) × ((i < s.registers) × (a < s.registers))

-- the register of a value that may be absent
abbrev pub IsSoundMaybe : Scope → Option ℕ → Type 0
IsSoundMaybe s None = Unit {0}
IsSoundMaybe s (Some x) = x < s.registers

abbrev pub IsSoundExit : Scope → RExit → Type 0
IsSoundExit s (Goto b) = b < s.blocks
IsSoundExit s (Branch a t e) = (a < s.registers) × ((t < s.blocks) × (e < s.blocks))
IsSoundExit s (Call f args d next) =
    IsCallee s.functions f (length args.items) × (All (λ x. x < s.registers) args.items × (IsSoundMaybe s d × (next < s.blocks)))
IsSoundExit s (Return a) = IsSoundMaybe s a
IsSoundExit s (Out a next) = (a < s.registers) × (next < s.blocks)

pub record IsSound (s : Scope) (c : Code) : Type 0 where
  pub insts : All (IsSoundInst s) c.insts
  pub exit : IsSoundExit s c.exit

abbrev pub IsSoundSpot : Scope → Spot → Type 0
IsSoundSpot s (Block b) = b < s.blocks
IsSoundSpot s (Line c) = IsSound s c

abbrev pub AreSound : Scope → List RBlock → Type 0
AreSound s [] = Unit {0}
AreSound s (b ∷ bs) = IsSound s (code_of b) × AreSound s bs

-- sound blocks stay sound as they become new, where all of new are in scope and what is needed holds; what is given holds then
abbrev pub KeepsSound : (old new : List RBlock) (Needs Gives : Scope → Type 0) → Type 0
KeepsSound old new Needs Gives = (s : Scope) → length new ≤ s.blocks → AreSound s old → Needs s → AreSound s new × Gives s
