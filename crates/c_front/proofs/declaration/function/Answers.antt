use Rattle.std.proofs.Common.{inl, inr, refl}
use Rattle.std.proofs.lemmas.Result.{IfOk-at_ok, IfErr-at_err}
use Rattle.c_front.proofs.Ends.{failed, unended}
use Rattle.c_front.proofs.Steps.{followed, mark, whole, past, within, inside, missing}
use Rattle.c_front.specs.Grammar.{function_rule}
use Rattle.c_front.proofs.declaration.function.Goals as goal

pub returns-in_err-open-clause-err : goal.returns-in_err-open-clause-err
returns-in_err-open-clause-err c = failed _ c.from_residual.ensures.1 (inside function_rule refl (λ z. z) (missing c.in_err-open.ensures.err))

pub returns-in_err-given-clause-err : goal.returns-in_err-given-clause-err
returns-in_err-given-clause-err c = failed _ c.from_residual-in_err-given.ensures.1
    (inside function_rule refl (λ z. z) (past (mark c.in_ok-open.ensures.ok) (elim c.in_err-given.ensures.err [
      | inl e ↦ within _ (unended _ _ _ _ _ _ (IfErr-at_err _ e c.expect_after-closed.ensures.err) c.parameters.ensures.ok c.parameters.ensures.err)
      | inr m ↦
          let d = IfOk-at_ok _ m.2 c.expect_after-closed.ensures.ok in
          past (IfOk-at_ok _ d.1 c.parameters.ensures.ok) (past (mark d.2) (missing m.3))
    ])))

pub returns-in_err-body-clause-err : goal.returns-in_err-body-clause-err
returns-in_err-body-clause-err c =
    let r = c.in_ok-given.ensures.ok in
    let d = IfOk-at_ok _ r.1 c.expect_after-closed.ensures.ok in
    failed _ c.from_residual-in_err-body.ensures.1 (inside function_rule refl (λ z. z) (past (mark c.in_ok-open.ensures.ok)
    (past (IfOk-at_ok _ d.1 c.parameters.ensures.ok) (past (mark d.2) (past (mark r.2)
    (unended _ _ _ _ _ _ c.in_err-body.ensures.err c.items.ensures.ok c.items.ensures.err))))))

pub returns-clause-ok : goal.returns-clause-ok
returns-clause-ok c =
    let r = c.in_ok-given.ensures.ok in
    let d = IfOk-at_ok _ r.1 c.expect_after-closed.ensures.ok in
    let b = c.in_ok-body.ensures.ok in (
      _,
      _,
      whole function_rule refl (followed (mark c.in_ok-open.ensures.ok) (followed (IfOk-at_ok _ d.1 c.parameters.ensures.ok)
          (followed (mark d.2) (followed (mark r.2) (followed (IfOk-at_ok _ b.1 c.items.ensures.ok) (mark b.2)))))),
      refl,
    )
