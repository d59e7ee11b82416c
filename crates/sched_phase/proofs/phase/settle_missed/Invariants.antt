use Rattle.std.proofs.Common.{◌≡◌, length}
use Rattle.sched_phase.specs.Settling.{AreDone}
use Rattle.sched_phase.proofs.phase.settle_missed.Given as goal

abbrev pub invariant-loop-number : goal.invariant-loop-number
invariant-loop-number g l =
    AreDone (g.R.Reorder.proposes l.reorder) l.unit.blocks l.progress
    × (length l.progress.orders.items ≡ l.number)
    × (l.blocks ≡ l.unit.blocks)
