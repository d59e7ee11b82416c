use Rattle.std.proofs.Common.{refl}
use Rattle.std.proofs.lemmas.Result.{IfOk-at_ok, IfOk-weaker, IfErr-weaker}
use Rattle.c_front.specs.Grammar.{is_constant}
use Rattle.c_front.proofs.Ends.{failed, unended}
use Rattle.c_front.proofs.Steps.{followed, one, mark, constant-missing}
use Rattle.c_front.proofs.declaration.array.Goals as goal

pub returns-in_err-length-clause-err : goal.returns-in_err-length-clause-err
returns-in_err-length-clause-err c =
    let read = IfOk-weaker c.literal.result _ _ (λ r e. one is_constant e) c.literal.ensures.ok in
    let stuck = IfErr-weaker c.literal.result _ _ (λ s h. constant-missing h) c.literal.ensures.err in
    failed _ c.from_residual.ensures.1 (unended _ _ _ _ _ _ c.in_err-length.ensures.err
    (IfOk-weaker c.expect_after-closed.result _ _ (λ r d. followed (IfOk-at_ok _ d.1 read) (mark d.2)) c.expect_after-closed.ensures.ok)
    (IfErr-weaker c.expect_after-closed.result _ _ (λ s d. unended _ _ _ _ _ _ d read stuck) c.expect_after-closed.ensures.err))

pub returns-clause-ok : goal.returns-clause-ok
returns-clause-ok c =
    let r = c.in_ok-length.ensures.ok in
    let closed = IfOk-at_ok _ r.1 c.expect_after-closed.ensures.ok in
    (_, followed (one is_constant (IfOk-at_ok _ closed.1 c.literal.ensures.ok)) (followed (mark closed.2) (mark r.2)), refl)
