use Rattle.std.proofs.Common.{◌≤◌, All, length}
use Rattle.std.specs.Vec.Iter.{into_iter_items}
use Rattle.sched_phase.specs.Settling.{AreDone, IsRightRun}
use Rattle.sched_phase.proofs.phase.settle_batch.Given as goal

abbrev pub invariant-loop-run : goal.invariant-loop-run
invariant-loop-run g l =
    All (IsRightRun (g.R.Reorder.proposes l.reorder) l.unit.blocks) (into_iter_items l.run-iterator)
    × AreDone (g.R.Reorder.proposes l.reorder) l.unit.blocks l.progress
    × (length l.progress.orders.items ≤ l.end)
