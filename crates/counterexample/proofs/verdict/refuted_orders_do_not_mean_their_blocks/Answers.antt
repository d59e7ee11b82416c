use Rattle.counterexample.proofs.Refuting.{refuted}
use Rattle.counterexample.proofs.verdict.refuted_orders_do_not_mean_their_blocks.Goals as goal

pub returns : goal.returns
returns c = refuted
