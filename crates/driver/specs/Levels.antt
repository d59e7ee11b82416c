-- The run of a program's text at each level, and the command `interp`.
use Rattle.std.specs.Prelude.{◌≡◌, ℕ, List, Bool, true, false, codes}
use Rattle.runs.specs.Runs.{Outcome}
use Rattle.rtl.specs.Programs.{Program}
use Rattle.rtl.specs.Meaning.{rtl_run}
use Rattle.mips_isa.specs.Starting.{start_state}
use Rattle.mblock.specs.Units.{UnitParts}
use Rattle.mblock.specs.UnitRuns.{unit_run}
use Rattle.mips_machine.specs.UnitViews.{link_of}
use Rattle.driver.specs.Halves.{IsUnitOf}
use Rattle.driver.specs.BuildFaults.{IsBeforeAssembly, IsBeforeSelection, IsBuildFault}
use Rattle.driver.specs.declared.builds.BuildFault.{BuildFault}
use Rattle.driver.specs.Stages.{IsRtlOf}
use Rattle.driver.specs.BuildTexts.{build_fault_text}
use Rattle.driver.specs.Interps.{IsInterpFault, IsRun, IsStepCount}
use Rattle.driver.specs.RunCommand.{IsCountedRemark, PrintsRun}
use Rattle.driver.specs.Texts.{end_status, end_text}
use Rattle.host.specs.OneFile.{FileMeaning, IsRefused}
use Rattle.host.specs.declared.numbers.WordForm.{WordForm}
use Rattle.command_line.specs.declared.command.Level.{Level}
use Rattle.command_line.specs.declared.command.Level.TheVariants as levels

-- what RTL of the program that a text spells comes to
pub record IsRtlRun (text : List ℕ) (depth steps : ℕ) (o : Outcome) : Type 0 where
  pub rtl : Program
  pub lowered : IsRtlOf text rtl
  pub run : o ≡ rtl_run rtl depth steps

-- what the blocks of the program that a text spells come to, item by item, a load showing at once
pub record IsBlocksRun (text : List ℕ) (depth steps : ℕ) (o : Outcome) : Type 0 where
  pub unit : UnitParts
  pub selected : IsUnitOf text depth unit
  pub run : o ≡ unit_run unit.blocks link_of (start_state unit.globals) steps

-- the same at the level that is asked for, and the faults that the text may have there
abbrev pub IsRunAt : Level → (text : List ℕ) → (depth steps : ℕ) → Outcome → Type 0
IsRunAt levels.C text depth steps o = IsRun text depth steps o
IsRunAt levels.Rtl text depth steps o = IsRtlRun text depth steps o
IsRunAt levels.Blocks text depth steps o = IsBlocksRun text depth steps o

abbrev pub IsFaultAt : Level → (depth : ℕ) → (text : List ℕ) → BuildFault → Type 0
IsFaultAt levels.C depth text fault = IsInterpFault text fault
IsFaultAt levels.Rtl depth text fault = IsBuildFault text 1 fault × IsBeforeSelection fault
IsFaultAt levels.Blocks depth text fault = IsBuildFault text depth fault × IsBeforeAssembly fault

-- at the level of C it prints while it runs, and steps are counted if that is asked for
abbrev pub is_of_c : Level → Bool
is_of_c levels.C = true
is_of_c _ = false

abbrev pub counts_at : Level → (counts : Bool) → Bool
counts_at levels.C counts = counts
counts_at _ counts = false

abbrev pub IsStepCountAt : Level → (text : List ℕ) → (depth steps count : ℕ) → Type 0
IsStepCountAt levels.C text depth steps count = IsStepCount text depth steps count
IsStepCountAt _ text depth steps count = Unit {0}

-- `mcc interp SOURCE`
abbrev pub interpreting : Level → (depth steps : ℕ) → WordForm → (counts : Bool) → FileMeaning Outcome BuildFault
interpreting level depth steps form counts = record {
  Answers = λ text o. IsRunAt level text depth steps o;
  Faults = IsFaultAt level depth;
  Prints = PrintsRun end_text form;
  status_of = λ o. end_status o.end;
  Remarks = λ text. IsCountedRemark (codes "steps") steps (counts_at level counts) (IsStepCountAt level text depth steps);
  line = build_fault_text;
  Unprinted = IsRefused;
  streams = is_of_c level;
}
