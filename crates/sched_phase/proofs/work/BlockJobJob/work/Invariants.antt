use Rattle.std.proofs.Common.{◌≡◌, ◌+◌, length}
use Rattle.sched_phase.specs.Settling.{AreRightFrom, ServesTerms}
use Rattle.sched_phase.proofs.work.BlockJobJob.work.Given as goal

abbrev pub invariant-loop-number : goal.invariant-loop-number
invariant-loop-number g l =
    AreRightFrom (g.R.Reorder.proposes l.self.judge.reorder.now) l.self.unit.now.blocks l.start l.verdicts.items
    × ServesTerms l.self.judge.terms.now l.pass
    × (l.start + length l.verdicts.items ≡ l.number)
    × (l.blocks ≡ l.self.unit.now.blocks)
