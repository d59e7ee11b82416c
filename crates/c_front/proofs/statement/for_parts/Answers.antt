use Rattle.std.proofs.lemmas.Result.{IfOk-at_ok, IfErr-at_err}
use Rattle.c_front.proofs.Ends.{failed}
use Rattle.c_front.proofs.Steps.{followed, mark, missing, past, within}
use Rattle.c_front.proofs.statement.for_parts.Goals as goal

pub returns-in_err-open-clause-err : goal.returns-in_err-open-clause-err
returns-in_err-open-clause-err c = failed _ c.from_residual.ensures.1 (missing c.in_err-open.ensures.err)

pub returns-in_err-first-clause-err : goal.returns-in_err-first-clause-err
returns-in_err-first-clause-err c =
    failed _ c.from_residual-in_err-first.ensures.1 (past (mark c.in_ok-open.ensures.ok) (within _ c.in_err-first.ensures.err))

pub returns-in_err-parts-clause-err : goal.returns-in_err-parts-clause-err
returns-in_err-parts-clause-err c = failed _ c.from_residual-in_err-parts.ensures.1
    (past (mark c.in_ok-open.ensures.ok) (past c.in_ok-first.ensures.ok (within _ (IfErr-at_err _ c.in_err-parts.ensures.err c.ended_expression.ensures.err))))

pub returns-in_err-parts-2-clause-err : goal.returns-in_err-parts-2-clause-err
returns-in_err-parts-2-clause-err c = failed _ c.from_residual-in_err-parts-2.ensures.1 (past (mark c.in_ok-open.ensures.ok) (past c.in_ok-first.ensures.ok
    (past (IfOk-at_ok _ c.in_ok-parts.ensures.ok.1 c.ended_expression.ensures.ok) (IfErr-at_err _ c.in_err-parts-2.ensures.err c.ended_simple-2.ensures.err))))

pub returns-clause-ok : goal.returns-clause-ok
returns-clause-ok c =
    let test = c.in_ok-parts.ensures.ok in
    let last = c.in_ok-parts-2.ensures.ok in
    rw (last.0, test.0) (followed (mark c.in_ok-open.ensures.ok) (followed c.in_ok-first.ensures.ok
    (followed (IfOk-at_ok _ test.1 c.ended_expression.ensures.ok) (IfOk-at_ok _ last.1 c.ended_simple-2.ensures.ok))))
