-- A build from its two halves: the unit of a text's program, and the image of its schedule.
use Rattle.std.proofs.Common.{◌≡◌, ◌+◌, ℕ, true, false, List, ap, length, map, refl, arith}
use Rattle.std.specs.Prelude.{slice_index}
use Rattle.mblock.specs.Units.{UnitParts}
use Rattle.mblock.specs.declared.limits.TheConstants.{BLOCK_INSTS}
use Rattle.mips_asm.specs.LayoutRuns.{RunsAs}
use Rattle.mblock.specs.PlainOrders.{plain_order_of}
use Rattle.mblock.proofs.PlainMeans.{each_plain_unit_has_its_orders}
use Rattle.list_scheduler.specs.Proposals.{IsNoLonger}
use Rattle.sched_phase.specs.Schedules.{ScheduledParts, no_counts}
use Rattle.sched_phase.specs.Phases.{IsPhase}
use Rattle.driver.specs.declared.builds.Built.{Built}
use Rattle.driver.specs.declared.builds.BuildFault.{BuildFault}
use Rattle.driver.specs.declared.builds.BuildFault.TheVariants as faults
use Rattle.driver.specs.declared.builds.Limit.TheVariants as limits
use Rattle.driver.specs.Follows.{FollowsText}
use Rattle.driver.specs.Builds.{IsPlain}
use Rattle.driver.specs.BuildCommand.{IsBuiltAs, IsUnbuilt}
use Rattle.driver.specs.BuildFaults.{IsBuildFault}
use Rattle.driver.specs.Halves.{IsTooLongAs, IsUnitOf, IsWritten, IsUnwritten}
use Rattle.driver.proofs.build_command.Composed.{followed}
use Rattle.driver.proofs.build_command.NoLonger.{within}

-- the image runs as the unit, so many items a word
pub followed_text : {text : List ℕ} {depth : ℕ} {u : UnitParts} {s : ScheduledParts} {b : Built} (factor : ℕ) → IsUnitOf text depth u → s.unit ≡ u
    → (w : IsWritten s b) → RunsAs factor s.unit.blocks s.orders w.build.image.code → FollowsText text depth factor b.image.items
followed_text {depth = depth} factor of same w runs = record {
  program = of.program;
  spelled = of.spelled;
  image = w.build.image;
  fits = w.build.fits;
  is = w.build.bytes;
  follows = followed of.program depth factor (rw same of.runs) w runs;
}

-- why there is none
pub unwritten : {depth : ℕ} {u : UnitParts} (s : ScheduledParts) → s.unit ≡ u → (fault : BuildFault) → IsUnwritten s fault
    → (text : List ℕ) → IsUnitOf text depth u → IsBuildFault text depth fault
unwritten s same (faults.Limit limits.Assembly) h text of =
    record { program = of.program; spelled = of.spelled; beyond = λ fit. omega (arith, ap (λ (v : UnitParts). length v.blocks) same) }
unwritten s same faults.NoMemory h text of = (of.program, of.spelled)
unwritten s same _ h text of = absurd h

pub too_long : {text : List ℕ} {depth : ℕ} {u : UnitParts} {Suits : ScheduledParts → Type 0} (s : ScheduledParts) → s.unit ≡ u → Suits s
    → IsUnitOf text depth u → (fault : BuildFault) → IsUnwritten s fault → IsTooLongAs Suits text depth fault
too_long s same suits of fault h is = let h = rw is at h in (s, suits, h.0, rw same of, h.1.0)

-- with --plain, and without: then plain orders are too long, as they are no shorter
pub plain_unbuilt : {depth : ℕ} {u : UnitParts} (s : ScheduledParts) → s.unit ≡ u → IsPlain s → (fault : BuildFault) → IsUnwritten s fault
    → (text : List ℕ) → IsUnitOf text depth u → IsUnbuilt text depth fault
plain_unbuilt s same plain fault h text of = (unwritten s same fault h text of, too_long s same plain of fault h)

pub scheduled_unbuilt : {depth : ℕ} {u : UnitParts} (s : ScheduledParts) → s.unit ≡ u → IsPhase IsNoLonger s → (fault : BuildFault)
    → IsUnwritten s fault → (text : List ℕ) → IsUnitOf text depth u → IsUnbuilt text depth fault
scheduled_unbuilt s same phase fault h text of = (
  unwritten s same fault h text of,
  λ is. let h = rw is at h in (
    record { unit = s.unit; orders = map plain_order_of s.unit.blocks; report = no_counts },
    record { orders = refl; report = refl },
    record { unit = h.0.unit; orders = each_plain_unit_has_its_orders s.unit.blocks h.0.orders.short; counted = omega arith },
    rw same of,
    λ fit. h.1.0 (within s h.0 phase (slice_index s.unit.owner) fit),
  ),
)

-- a build with --plain and one without
pub plain_as_asked : {depth : ℕ} {u : UnitParts} {s : ScheduledParts} → s.unit ≡ u → IsPlain s → (b : Built) → IsWritten s b
    → (text : List ℕ) → IsUnitOf text depth u → IsBuiltAs text depth true b
plain_as_asked {s = s} same plain b w text of =
    (followed_text 1 of same w (w.runs.plain plain.orders), record { scheduled = s; suits = plain; build = w.build })

pub scheduled_as_asked : {depth : ℕ} {u : UnitParts} {s : ScheduledParts} → s.unit ≡ u → IsPhase IsNoLonger s → (b : Built) → IsWritten s b
    → (text : List ℕ) → IsUnitOf text depth u → IsBuiltAs text depth false b
scheduled_as_asked {s = s} same phase b w text of =
    (followed_text (BLOCK_INSTS + 1) of same w w.runs.runs, record { scheduled = s; suits = phase; build = w.build })
