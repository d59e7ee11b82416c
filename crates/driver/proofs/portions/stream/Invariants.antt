use Rattle.driver.proofs.run_command.Streamed.{Begun}
use Rattle.driver.proofs.portions.stream.Given as goal

abbrev pub invariant-loop-advance : goal.invariant-loop-advance
invariant-loop-advance g l = Begun g.R.Resumable.comes_to g.R.Resumable.more l.form l.most l.fn.run (g.W.Write.contents l.fn.out) l.left l.run
    (g.W.Write.contents l.out)

abbrev pub decreases-loop-advance : goal.decreases-loop-advance
decreases-loop-advance g l = l.left
