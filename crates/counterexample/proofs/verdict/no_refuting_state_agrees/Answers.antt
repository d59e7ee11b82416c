use Rattle.counterexample.proofs.Refuting.{disagrees}
use Rattle.counterexample.proofs.verdict.no_refuting_state_agrees.Goals as goal

pub returns : goal.returns
returns c = disagrees
