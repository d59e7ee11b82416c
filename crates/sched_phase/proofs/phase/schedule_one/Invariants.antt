use Rattle.std.proofs.Common.{◌≡◌, ◌≤◌, ◌-◌, length}
use Rattle.sched_phase.specs.Settling.{AreDone}
use Rattle.sched_phase.proofs.phase.schedule_one.Given as goal

abbrev pub invariant-batches : goal.invariant-batches
invariant-batches g l =
    AreDone (g.R.Reorder.proposes l.reorder) l.unit.blocks l.progress
    × (length l.progress.orders.items ≤ length l.unit.blocks)
    × (l.progress.report.missed ≡ 0)
    × (l.blocks ≡ l.unit.blocks)

abbrev pub decreases-batches : goal.decreases-batches
decreases-batches g l = length l.unit.blocks - length l.progress.orders.items
