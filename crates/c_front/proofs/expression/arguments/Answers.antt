use Rattle.std.proofs.Common.{[], arith, refl, sym, append_assoc, append-nil}
use Rattle.std.proofs.lemmas.Result.{IfOk-at_ok, IfOk-weaker, IfErr-weaker}
use Rattle.c_front.proofs.Ends.{failed, stops, plain-ended, unended}
use Rattle.c_tokens.specs.declared.token.Mark.TheVariants.{RightParen}
use Rattle.c_tree.specs.Shape.{expressions_of}
use Rattle.c_front.proofs.Reading.{takes}
use Rattle.c_front.proofs.Choices.{expressions_of-append, otherwise}
use Rattle.c_front.proofs.Steps.{shorter, followed, mark, whole, past, within, inside, begun, goes-first, goes-more}
use Rattle.c_front.specs.Grammar.{arguments, more_arguments, arguments_none, arguments_some, more_arguments_end, more_arguments_more, is_the}
use Rattle.c_front.specs.Reading.{read_nothing}
use Rattle.c_front.proofs.expression.arguments.Goals as goal

pub returns-in-Some-clause-ok : goal.returns-in-Some-clause-ok
returns-in-Some-clause-ok c = rw c.new.ensures.items
    (followed (whole arguments_none (rw c.in-Some.ensures.some) read_nothing) (mark c.in-Some.ensures.some))

pub returns-in_err-rest-clause-err : goal.returns-in_err-rest-clause-err
returns-in_err-rest-clause-err c = failed _ c.from_residual.ensures.1 (within _ (inside arguments_some (otherwise arguments _ c.in_default.ensures.none) (λ z. z)
    (within _ (stops _ _ _ _ c.in_err-rest.ensures.err c.expression.ensures.err))))

pub more-init : goal.more-init
more-init c =
    let r = c.in_ok-rest.ensures.ok in
    rw (r.2, c.new-all.ensures.items) (goes-more goes-first arguments_some (otherwise arguments _ c.in_default.ensures.none) (λ z. z)
    (IfOk-at_ok _ r.1 c.expression.ensures.ok) (λ m. refl))

pub returns-in_err-rest-2-clause-err : goal.returns-in_err-rest-2-clause-err
returns-in_err-rest-2-clause-err c = failed _ c.from_residual-in_err-rest-2.ensures.1 (within _ (c.more.invariant.stuck _
    (begun more_arguments_more is_the c.in-Some-starts.ensures.some refl
    (within _ (stops _ _ _ _ c.in_err-rest-2.ensures.err c.expression-in-Some-starts.ensures.err)))))

pub more-preserved : goal.more-preserved
more-preserved c =
    let r = c.in_ok-rest-2.ensures.ok in
    rw (r.2, expressions_of-append c.more.all.items r.0)
    (goes-more c.more.invariant more_arguments_more (rw c.in-Some-starts.ensures.some) (λ z. z)
    (followed (mark c.in-Some-starts.ensures.some) (IfOk-at_ok _ r.1 c.expression-in-Some-starts.ensures.ok))
    (append_assoc (expressions_of c.more.all.items) _))

pub returns : goal.returns
returns c =
    let read = c.more.invariant.reads _ _ (whole more_arguments_end (otherwise more_arguments _ c.in_default-starts.ensures.none) read_nothing) in record {
      ok = IfOk-weaker c.expect_after.result _ _ (λ r d. let h = plain-ended RightParen r d in
          rw (h.0, sym (append-nil (expressions_of c.more.all.items))) (followed read (mark h.1))) c.expect_after.ensures.ok;
      err = IfErr-weaker c.expect_after.result _ _ (λ s d. past read (unended _ _ [] _ (λ _. tt) s d read_nothing tt)) c.expect_after.ensures.err;
    }

pub more-smaller : goal.more-smaller
more-smaller c = omega (arith, shorter c.in-Some-starts.ensures.some, takes tt (IfOk-at_ok _ c.in_ok-rest-2.ensures.ok.1 c.expression-in-Some-starts.ensures.ok))
