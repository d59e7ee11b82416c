-- Why nothing of a text is shown.
use Rattle.std.specs.Prelude.{◌≡◌, ◌≤◌, ◌⊎◌, ℕ, List, codes}
use Rattle.c_typed.specs.Trees.{TypedFunction, TypedProgram}
use Rattle.c_types.specs.Typed.{SpellsTyped}
use Rattle.rtl.specs.Programs.{Program, IsProgram}
use Rattle.rtl_lower.specs.Laws.{KeepsRuns}
use Rattle.mips_select.specs.Limits.{largest_frame, most_by_exits_for}
use Rattle.driver.specs.BuildFaults.{largest_counted, functions_counted, IsBuildFault}
use Rattle.driver.specs.SourceFaults.{IsFaultless}
use Rattle.driver.specs.BuildTexts.{build_fault_text}
use Rattle.driver.specs.declared.builds.BuildFault.TheVariants as builds
use Rattle.driver.specs.declared.builds.Limit.TheVariants as limits
use Rattle.driver.specs.declared.show_commands.StagesFault.{StagesFault}
use Rattle.driver.specs.declared.show_commands.StagesFault.TheVariants as faults

-- RTL whose frames and blocks of machine code are no more than is counted on the typed functions
pub record IsCounted (fs : List TypedFunction) (r : Program) : Type 0 where
  pub frames : largest_frame r.functions ≤ largest_counted fs
  pub blocks : most_by_exits_for r.functions ≤ functions_counted fs

-- RTL of a typed program
pub record IsLowered (p : TypedProgram) (r : Program) : Type 0 where
  pub runs : KeepsRuns p r
  pub counted : IsCounted p.functions r
  pub fits : IsProgram r

-- and of the program that the text spells
pub record IsRtlOf (text : List ℕ) (r : Program) : Type 0 where
  pub program : TypedProgram
  pub spelled : SpellsTyped text program
  pub lowered : IsLowered program r

-- the fault of a build of the text, one of whose calls is active. A listing is too long, or the words ask for what isn't there, only where
-- the text has none
abbrev pub IsStagesFault : List ℕ → StagesFault → Type 0
IsStagesFault text (faults.Build fault) = IsBuildFault text 1 fault ⊎ ((fault ≡ builds.Limit limits.Assembly) × IsFaultless text)
IsStagesFault text faults.NoStage = IsFaultless text
IsStagesFault text faults.NoFunction = IsFaultless text
IsStagesFault text (faults.NoBlock first last) = IsFaultless text

abbrev pub stages_fault_text : StagesFault → List ℕ
stages_fault_text (faults.Build fault) = build_fault_text fault
stages_fault_text faults.NoStage = codes "fault 18 NoStage"
stages_fault_text faults.NoFunction = codes "fault 16 NoFunction"
stages_fault_text (faults.NoBlock first last) = codes "fault 14 NoBlock"
