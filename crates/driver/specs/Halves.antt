-- The two halves of a build, as its private functions see them: up to a unit, and from a scheduled unit on.
use Rattle.std.specs.Prelude.{◌≡◌, ◌<◌, ◌≤◌, ◌*◌, ℕ, List, length, slice_index}
use Rattle.runs.specs.Runs.{Outcome}
use Rattle.c_typed.specs.Trees.{TypedProgram}
use Rattle.c_typed.specs.Meaning.{source_run}
use Rattle.c_types.specs.Typed.{SpellsTyped}
use Rattle.mips_isa.specs.Starting.{start_state}
use Rattle.mblock.specs.Units.{UnitParts}
use Rattle.mblock.specs.UnitRuns.{unit_run, TellsApart}
use Rattle.sched_phase.specs.Schedules.{ScheduledParts, IsScheduled}
use Rattle.mips_asm.specs.Assembled.{RunsAsUnit}
use Rattle.mips_asm.specs.Emitted.{IsWithin}
use Rattle.mips_asm.specs.declared.limits.TheConstants.{FUNCTION_WORDS}
use Rattle.runs.specs.Refines.{Refines, Same, AtLeast}
use Rattle.driver.specs.BuildFaults.{blocks_counted}
use Rattle.driver.specs.Builds.{IsBuildOf, IsPlain}
use Rattle.driver.specs.declared.builds.Built.{Built}
use Rattle.driver.specs.declared.builds.BuildFault.{BuildFault}
use Rattle.driver.specs.declared.builds.BuildFault.TheVariants as faults
use Rattle.driver.specs.declared.builds.Limit.TheVariants as limits

-- a unit that refines a run, whatever the links of its calls
abbrev pub IsRefinedBy : (source : ℕ → Outcome) → UnitParts → Type 0
IsRefinedBy source u = (links : ℕ → ℕ) → TellsApart links u.blocks → Refines AtLeast Same source (unit_run u.blocks links (start_state u.globals))

-- a unit of the program that the text spells. It refines the program, and has no more blocks than are counted
pub record IsUnitOf (text : List ℕ) (depth : ℕ) (u : UnitParts) : Type 0 where
  pub program : TypedProgram
  pub spelled : SpellsTyped text program
  pub runs : IsRefinedBy (source_run program depth) u
  pub few : length u.blocks ≤ blocks_counted program.functions

-- a build whose image runs as the unit
pub record IsWritten (s : ScheduledParts) (b : Built) : Type 0 where
  pub build : IsBuildOf s b
  pub runs : RunsAsUnit s.unit s.orders build.image

-- why a scheduled unit has no image: it would be too long, or memory was refused
abbrev pub IsUnwritten : ScheduledParts → BuildFault → Type 0
IsUnwritten s (faults.Limit limits.Assembly) =
    IsScheduled s × ((IsWithin (slice_index s.unit.owner) s.orders → ⊥) × (FUNCTION_WORDS < 2052 * length s.orders))
IsUnwritten s faults.NoMemory = Unit {0}
IsUnwritten s _ = ⊥

-- a build whose orders are as asked says that it is too long only if such orders of a unit of the text are
abbrev pub IsTooLongAs : (Suits : ScheduledParts → Type 0) → (text : List ℕ) → (depth : ℕ) → BuildFault → Type 0
IsTooLongAs Suits text depth fault = fault ≡ faults.Limit limits.Assembly
    → (s : ScheduledParts) × Suits s × IsScheduled s × IsUnitOf text depth s.unit × (IsWithin (slice_index s.unit.owner) s.orders → ⊥)

abbrev pub IsTooLongPlain : (text : List ℕ) → (depth : ℕ) → BuildFault → Type 0
IsTooLongPlain = IsTooLongAs IsPlain
