-- The promises of the layers, one behind the other: each is a refinement, and they compose.
use Rattle.std.proofs.Common.{ℕ, ◌≤◌, None, []}
use Rattle.runs.specs.Runs.{Outcome}
use Rattle.mips_isa.specs.Flows.{quiet}
use Rattle.mips_isa.specs.Starting.{start_state}
use Rattle.mips_isa.proofs.StateWords.{start_words}
use Rattle.c_typed.specs.Trees.{TypedProgram}
use Rattle.c_typed.specs.Meaning.{source_run}
use Rattle.rtl.specs.Programs.{Program}
use Rattle.rtl.specs.Meaning.{rtl_run}
use Rattle.rtl_lower.specs.Laws.{KeepsRuns as Lowers}
use Rattle.mips_select.specs.Laws.{KeepsRuns as Selects}
use Rattle.mblock.specs.Units.{UnitParts}
use Rattle.mblock.specs.UnitRuns.{unit_run}
use Rattle.mips_code.specs.Machines.{MachineOutcome, machine_run, words_code}
use Rattle.mips_code.specs.Agreement.{Agrees}
use Rattle.mips_asm.specs.Layout.{links_of, address_of_place}
use Rattle.mips_asm.specs.LayoutRuns.{RunsAs}
use Rattle.sched_phase.specs.Schedules.{ScheduledParts}
use Rattle.runs.specs.Refines.{Same, AtLeast, UpTo, Then}
use Rattle.runs.proofs.Refines.{refinements_compose, in_pace, at_least_twice, at_least_up_to}
use Rattle.driver.specs.declared.builds.Built.{Built}
use Rattle.driver.specs.Follows.{Follows}
use Rattle.driver.specs.Halves.{IsRefinedBy, IsWritten}

-- from the source to the unit
pub selected : (p : TypedProgram) (r : Program) (u : UnitParts) (depth : ℕ) → 1 ≤ depth → Lowers p r → Selects r depth u
    → IsRefinedBy (source_run p depth) u
selected p r u depth low lowers keeps links apart =
    let source = source_run p depth in
    let unit = unit_run u.blocks links (start_state u.globals) in
    in_pace (Then AtLeast AtLeast) AtLeast Same source unit at_least_twice
    (refinements_compose Outcome AtLeast AtLeast Same source (rtl_run r depth) unit (lowers depth low) (λ n right. keeps n right links apart))

-- and on to the image
pub followed : {s : ScheduledParts} {b : Built} (p : TypedProgram) (depth factor : ℕ) → IsRefinedBy (source_run p depth) s.unit
    → (w : IsWritten s b) → RunsAs factor s.unit.blocks s.orders w.build.image.code → Follows w.build.image p depth factor
followed {s} p depth factor refined w runs =
    let source = source_run p depth in
    let start = start_state s.unit.globals in
    let unit = unit_run s.unit.blocks (links_of s.orders) start in
    let ran : ℕ → MachineOutcome =
    λ m. machine_run (words_code w.build.image.code) m (record { flow = quiet start; pc = address_of_place 0; target = None; output = [] }) in
    rw (w.build.assembled.bytes, w.build.assembled.entry)
    (in_pace (Then AtLeast (UpTo factor)) (UpTo factor) Agrees source ran (at_least_up_to factor)
    (refinements_compose MachineOutcome AtLeast (UpTo factor) Agrees source unit ran (refined (links_of s.orders) w.runs.apart)
    (runs start (start_words s.unit.globals w.build.orders.unit.data_bytes))))
