use Rattle.std.proofs.Common.{subst, sym}
use Rattle.std.proofs.lemmas.Result.{IfOk-weaker}
use Rattle.sched_phase.specs.Settling.{Serves}
use Rattle.sched_phase.proofs.Serving.{plain_serves}
use Rattle.sched_phase.proofs.settle.plain_order.Goals as goal

pub returns-clause-serves : goal.returns-clause-serves
returns-clause-serves c =
    let block = c.args.block.now in
    IfOk-weaker c.plain.result _ _ (λ o is. subst (Serves block) (sym is) (plain_serves block c.plain.ensures.limit)) c.plain.ensures.order
