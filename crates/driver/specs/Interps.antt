-- The run of a program's text, or why it has none.
use Rattle.std.specs.Prelude.{◌≡◌, ℕ, List}
use Rattle.runs.specs.Runs.{Outcome}
use Rattle.runs.specs.Portions.{IsCount}
use Rattle.runs.specs.declared.ran.End.TheVariants.{More}
use Rattle.c_typed.specs.Trees.{TypedProgram}
use Rattle.driver.specs.SourceFaults.{IsFaultless, IsSourceFault}
use Rattle.c_types.specs.Typed.{SpellsTyped}
use Rattle.c_typed.specs.Meaning.{source_run}
use Rattle.driver.specs.declared.builds.BuildFault.{BuildFault}
use Rattle.driver.specs.declared.builds.BuildFault.TheVariants as faults

-- what the program that a text spells comes to, which has no fault
pub record IsRun (text : List ℕ) (depth steps : ℕ) (o : Outcome) : Type 0 where
  pub program : TypedProgram
  pub spelled : SpellsTyped text program
  pub run : o ≡ source_run program depth steps

-- the program takes so many of the steps that were asked for
abbrev pub IsStepCount : (text : List ℕ) → (depth steps count : ℕ) → Type 0
IsStepCount text depth steps count = (program : TypedProgram) × SpellsTyped text program × IsCount (source_run program depth) More steps count

-- the text's own fault, or one of the program that it spells; no limit, and lack of memory comes only where that has no fault
abbrev pub IsInterpFault : List ℕ → BuildFault → Type 0
IsInterpFault text (faults.Source fault) = IsSourceFault text fault
IsInterpFault text (faults.Limit limit) = ⊥
IsInterpFault text faults.NoMemory = IsFaultless text
