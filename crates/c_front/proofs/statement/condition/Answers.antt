use Rattle.std.proofs.lemmas.Result.{IfOk-weaker, IfErr-weaker}
use Rattle.c_front.proofs.Steps.{followed, mark, missing, past}
use Rattle.c_front.proofs.Ends.{failed}
use Rattle.c_front.proofs.statement.condition.Goals as goal

pub returns-in_err-open-clause-err : goal.returns-in_err-open-clause-err
returns-in_err-open-clause-err c = failed _ c.from_residual.ensures.1 (missing c.in_err-open.ensures.err)

pub returns-clause-ok : goal.returns-clause-ok
returns-clause-ok c = IfOk-weaker c.closed_expression.result _ _ (λ r d. followed (mark c.in_ok-open.ensures.ok) d) c.closed_expression.ensures.ok

pub returns-clause-err : goal.returns-clause-err
returns-clause-err c = IfErr-weaker c.closed_expression.result _ _ (λ s h. past (mark c.in_ok-open.ensures.ok) h) c.closed_expression.ensures.err
