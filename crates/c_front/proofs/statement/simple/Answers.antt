use Rattle.std.proofs.Common.{refl, ap, ◌∷◌, List}
use Rattle.std.proofs.lemmas.Result.{IfOk-at_ok}
use Rattle.c_tokens.specs.declared.token.Token.TheVariants.{Name}
use Rattle.c_front.specs.Grammar.{is_name, simple_assign, simple_assign_at, simple_call, call_rule}
use Rattle.c_front.proofs.Ends.{failed, unended}
use Rattle.c_front.proofs.Steps.{followed, mark, whole, taken, past, within, begun}
use Rattle.c_front.proofs.Choices.{call-stuck, assign-chosen}
use Rattle.c_tokens.specs.declared.token.Token.{Token}
use Rattle.c_front.proofs.statement.simple.Goals as goal

pub returns-in_err-arguments-clause-err : goal.returns-in_err-arguments-clause-err
returns-in_err-arguments-clause-err c = failed _ c.from_residual.ensures.1
    (call-stuck simple_call refl (ap (λ (x : List Token). Name c.args.name ∷ x) c.in-Some.ensures.some) c.in_err-arguments.ensures.err)

pub returns-in-Some-clause-ok : goal.returns-in-Some-clause-ok
returns-in-Some-clause-ok c = whole simple_call (rw c.in-Some.ensures.some)
    (taken call_rule is_name refl refl (followed (mark c.in-Some.ensures.some) c.in_ok-arguments.ensures.ok))

pub returns-in_err-index-clause-err : goal.returns-in_err-index-clause-err
returns-in_err-index-clause-err c = failed _ c.from_residual-in_err-index.ensures.1
    (begun simple_assign_at is_name refl (rw c.in-Some-starts.ensures.some) (past (mark c.in-Some-starts.ensures.some)
    (within _ (unended _ _ _ _ _ _ c.in_err-index.ensures.err c.closed_expression.ensures.ok c.closed_expression.ensures.err))))

pub returns-in_err-given-clause-err : goal.returns-in_err-given-clause-err
returns-in_err-given-clause-err c =
    let r = c.in_ok-index.ensures.ok in
    failed _ c.from_residual-in_err-given.ensures.1
    (begun simple_assign_at is_name refl (rw c.in-Some-starts.ensures.some) (past (mark c.in-Some-starts.ensures.some)
    (past (IfOk-at_ok _ r.1 c.closed_expression.ensures.ok) (past (mark r.2) c.in_err-given.ensures.err))))

pub returns-in-Some-starts-clause-ok : goal.returns-in-Some-starts-clause-ok
returns-in-Some-starts-clause-ok c =
    let r = c.in_ok-index.ensures.ok in
    taken simple_assign_at is_name refl (rw c.in-Some-starts.ensures.some) (followed (mark c.in-Some-starts.ensures.some)
    (followed (IfOk-at_ok _ r.1 c.closed_expression.ensures.ok) (followed (mark r.2) c.in_ok-given.ensures.ok)))

pub returns-in_err-given-2-clause-err : goal.returns-in_err-given-2-clause-err
returns-in_err-given-2-clause-err c = failed _ c.from_residual-in_err-given-2.ensures.1
    (begun simple_assign is_name refl (assign-chosen c.args.name _ c.in_default.ensures.none c.in_default-starts.ensures.none) c.in_err-given-2.ensures.err)

pub returns-clause-ok : goal.returns-clause-ok
returns-clause-ok c =
    taken simple_assign is_name refl (assign-chosen c.args.name _ c.in_default.ensures.none c.in_default-starts.ensures.none) c.in_ok-given-2.ensures.ok
