use Rattle.std.proofs.Common.{◌≡◌, ◌+◌, length}
use Rattle.sched_phase.specs.Settling.{AreDone, ServesTerms}
use Rattle.sched_phase.proofs.phase.one_by_one.Given as goal

abbrev pub invariant-loop-i : goal.invariant-loop-i
invariant-loop-i g l =
    ServesTerms l.judge.terms.now l.pass
    × AreDone (g.R.Reorder.proposes l.judge.reorder.now) l.unit.blocks l.progress
    × (length l.progress.orders.items ≡ l.first + l.i)
    × (l.progress.report.missed ≡ l.fn.progress.report.missed)
    × (l.blocks ≡ l.unit.blocks)
    × (l.first ≡ length l.fn.progress.orders.items)
