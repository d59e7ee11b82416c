use Rattle.std.proofs.Common.{refl, []}
use Rattle.std.proofs.lemmas.Result.{IfOk-at_ok, IfOk-weaker, IfErr-weaker}
use Rattle.c_front.specs.Reading.{read_nothing}
use Rattle.c_front.proofs.Ends.{failed, plain-ended, unended}
use Rattle.c_front.proofs.Steps.{followed, mark, whole, past, inside-more}
use Rattle.c_front.proofs.Choices.{unnamed, otherwise}
use Rattle.c_front.specs.Grammar.{maybe_simple, simple_none, simple_some}
use Rattle.c_front.proofs.statement.ended_simple.Goals as goal

pub returns-in-Err-clause-err : goal.returns-in-Err-clause-err
returns-in-Err-clause-err c = IfErr-weaker c.expect_after-in-Err.result _ _
    (λ s d. past (whole simple_none (otherwise maybe_simple _ (unnamed _ _ c.in-Err.ensures.err)) read_nothing) (unended _ _ [] _ (λ _. tt) s d read_nothing tt))
    c.expect_after-in-Err.ensures.err

pub returns-in-Err-clause-ok : goal.returns-in-Err-clause-ok
returns-in-Err-clause-ok c = IfOk-weaker c.expect_after-in-Err.result _ _
    (λ r d. let h = plain-ended c.args.closing r d in
    rw h.0 (followed (whole simple_none (otherwise maybe_simple _ (unnamed _ _ c.in-Err.ensures.err)) read_nothing) (mark h.1))) c.expect_after-in-Err.ensures.ok

pub returns-in_err-inner-in-Ok-clause-err : goal.returns-in_err-inner-in-Ok-clause-err
returns-in_err-inner-in-Ok-clause-err c = rw c.in-Ok.ensures.ok (failed _ c.from_residual.ensures.1
    (inside-more simple_some refl (λ z. z) (unended _ _ _ _ _ _ c.in_err-inner-in-Ok.ensures.err c.simple.ensures.ok c.simple.ensures.err)))

pub returns-in_ok-inner-in-Ok-clause-ok : goal.returns-in_ok-inner-in-Ok-clause-ok
returns-in_ok-inner-in-Ok-clause-ok c =
    let d = c.in_ok-inner-in-Ok.ensures.ok in
    rw c.in-Ok.ensures.ok (followed (whole simple_some refl (IfOk-at_ok _ d.1 c.simple.ensures.ok)) (mark d.2))
