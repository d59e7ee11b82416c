-- What is emitted for a well-formed program names only what is there.
use Rattle.std.specs.Prelude.{◌≡◌, ℕ, ◌≤◌, Bool, List, Some, length, slice_get}
use Rattle.c_typed.specs.Trees.{TypedStatement, TypedStatements, TypedFunction, TypedProgram}
use Rattle.c_typed.specs.WellFormed.{FitsStatement, FitsStatements}
use Rattle.rtl.specs.Programs.{IsCallee}
use Rattle.rtl.specs.declared.block.RBlock.{RBlock}
use Rattle.rtl_emit.specs.Sound.{Scope, KeepsSound}

-- so many registers are in scope, the functions of a program with their parameters, and its globals
pub record Suits (p : TypedProgram) (registers : ℕ) (s : Scope) : Type 0 where
  pub registers_fit : registers ≤ s.registers
  pub functions : (i : ℕ) (f : TypedFunction) → slice_get p.functions i ≡ Some f → IsCallee s.functions i f.parameters
  pub globals : length p.globals ≤ s.globals

-- blocks stay sound as code with so many registers is added for a statement, of whatever program it fits
abbrev pub KeepsFit : TypedStatement → (registers : ℕ) → (old new : List RBlock) → (Needs Gives : Scope → Type 0) → Type 0
KeepsFit t registers old new Needs Gives =
    (p : TypedProgram) (n : ℕ) (gives inside : Bool) → FitsStatement p n gives inside t
    → KeepsSound old new (λ s. Suits p registers s × Needs s) Gives

abbrev pub KeepsFitAll : TypedStatements → (registers : ℕ) → (old new : List RBlock) → (Needs Gives : Scope → Type 0) → Type 0
KeepsFitAll all registers old new Needs Gives =
    (p : TypedProgram) (n : ℕ) (gives inside : Bool) → FitsStatements p n gives inside all
    → KeepsSound old new (λ s. Suits p registers s × Needs s) Gives
