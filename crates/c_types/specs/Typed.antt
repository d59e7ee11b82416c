-- Which typed program a text has, and where typed programs come from.
use Rattle.std.specs.Prelude.{ℕ, List}
use Rattle.c_front.specs.Texts.{SpellsText}
use Rattle.c_tree.specs.Tree.{Declaration}
use Rattle.c_statements.specs.Faults.{HasNone}
use Rattle.c_types.specs.Programs.{FaultyProgram, TypesProgram}
use Rattle.c_typed.specs.Trees.{TypedProgram}
use Rattle.c_typed.specs.WellFormed.{IsWellFormed}

-- the text spells a program, this program has no fault, and this is its typed program
pub record SpellsTyped (text : List ℕ) (p : TypedProgram) : Type 0 where
  pub declarations : List Declaration
  pub spells : SpellsText text declarations
  pub faultless : HasNone (FaultyProgram text declarations)
  pub types : TypesProgram text declarations p

-- the typed program of a program without faults
pub record IsTyped (p : TypedProgram) : Type 0 where
  pub text : List ℕ
  pub declarations : List Declaration
  pub types : TypesProgram text declarations p
  pub faultless : HasNone (FaultyProgram text declarations)

abbrev pub EachTypedProgramIsWellFormed : Type 0
EachTypedProgramIsWellFormed = (p : TypedProgram) → IsTyped p → IsWellFormed p
