use Rattle.std.proofs.Common.{◌≡◌, ◌≤◌, length}
use Rattle.std.specs.Vec.Iter.{into_iter_items}
use Rattle.sched_phase.specs.Settling.{AreDone, AreRightFrom}
use Rattle.sched_phase.proofs.phase.settle_run.Given as goal

abbrev pub invariant-loop-verdict : goal.invariant-loop-verdict
invariant-loop-verdict g l =
    AreRightFrom (g.R.Reorder.proposes l.reorder) l.unit.blocks (length l.progress.orders.items) (into_iter_items l.verdict-iterator)
    × AreDone (g.R.Reorder.proposes l.reorder) l.unit.blocks l.progress
    × (length l.progress.orders.items ≤ l.end)
    × (l.blocks ≡ l.unit.blocks)
