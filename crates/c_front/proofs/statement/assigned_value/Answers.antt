use Rattle.std.proofs.lemmas.Result.{IfOk-weaker, IfErr-weaker}
use Rattle.c_front.proofs.Ends.{failed}
use Rattle.c_front.proofs.Steps.{followed, mark, missing, past}
use Rattle.c_front.proofs.statement.assigned_value.Goals as goal

pub returns-in_err-start-clause-err : goal.returns-in_err-start-clause-err
returns-in_err-start-clause-err c = failed _ c.from_residual.ensures.1 (missing c.in_err-start.ensures.err)

pub returns-clause-ok : goal.returns-clause-ok
returns-clause-ok c = IfOk-weaker c.value.result _ _ (λ r d. followed (mark c.in_ok-start.ensures.ok) d) c.value.ensures.ok

pub returns-clause-err : goal.returns-clause-err
returns-clause-err c = IfErr-weaker c.value.result _ _ (λ s h. past (mark c.in_ok-start.ensures.ok) h) c.value.ensures.err
