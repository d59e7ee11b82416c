use Rattle.std.proofs.Common.{arith, refl}
use Rattle.c_front.specs.Grammar.{choice, expression_rule, choice_none, choice_some, operand_constant, operand_name, operand_index}
use Rattle.c_front.specs.Grammar.{operand_unary, operand_paren, is_name, is_constant, is_the}
use Rattle.c_front.specs.Reading.{read_nothing}
use Rattle.c_front.specs.Parsing.{level_of, without_memory}
use Rattle.std.proofs.lemmas.Result.{IfOk-at_ok, IfOk-weaker, IfErr-weaker}
use Rattle.c_front.proofs.Reading.{takes}
use Rattle.c_front.proofs.Ends.{failed, stops, unended}
use Rattle.c_front.proofs.Steps.{at-first, at-mark, shorter, followed, mark, whole, taken, past, within, inside, begun, no-phrase}
use Rattle.c_front.proofs.Paths.{climbs-first, climbs-more, climbs-end, further-out, lifted, climbs-more-stuck, chosen-prefix, no-operand}
use Rattle.c_front.proofs.Choices.{no-index, otherwise}
use Rattle.c_front.proofs.expression.+expressions.Goals as goal

pub expression-returns-in_err-condition-clause-err : goal.expression-returns-in_err-condition-clause-err
expression-returns-in_err-condition-clause-err t c =
    failed _ c.from_residual.ensures.1 (inside expression_rule refl (λ z. z) (within _ c.in_err-condition.ensures.err))

pub expression-returns-in_err-first-in-Some-clause-err : goal.expression-returns-in_err-first-in-Some-clause-err
expression-returns-in_err-first-in-Some-clause-err t c = failed _ c.from_residual-in_err-first-in-Some.ensures.1 (inside expression_rule refl (λ z. z)
    (past c.in_ok-condition.ensures.ok (begun choice_some is_the c.in-Some.ensures.some refl c.in_err-first-in-Some.ensures.err)))

pub expression-returns-in_err-parts-in-Some-clause-err : goal.expression-returns-in_err-parts-in-Some-clause-err
expression-returns-in_err-parts-in-Some-clause-err t c = failed _ c.from_residual-in_err-parts-in-Some.ensures.1 without_memory

pub expression-returns-in_ok-parts-in-Some-clause-ok : goal.expression-returns-in_ok-parts-in-Some-clause-ok
expression-returns-in_ok-parts-in-Some-clause-ok t c = rw c.in_ok-parts-in-Some.ensures.ok (whole expression_rule refl
    (followed c.in_ok-condition.ensures.ok (taken choice_some is_the c.in-Some.ensures.some refl c.in_ok-first-in-Some.ensures.ok)))

pub expression-returns-in-None-clause-ok : goal.expression-returns-in-None-clause-ok
expression-returns-in-None-clause-ok t c = whole expression_rule refl
    (followed c.in_ok-condition.ensures.ok (whole choice_none (otherwise choice _ c.in-None.ensures.none) read_nothing))

pub choice-returns-in_err-first-clause-err : goal.choice-returns-in_err-first-clause-err
choice-returns-in_err-first-clause-err t c = failed _ c.from_residual.ensures.1 (within _ c.in_err-first.ensures.err)

pub choice-returns-in_err-second-clause-err : goal.choice-returns-in_err-second-clause-err
choice-returns-in_err-second-clause-err t c = failed _ c.from_residual-in_err-second.ensures.1 (past c.in_ok-first.ensures.ok c.in_err-second.ensures.err)

pub choice-returns-clause-ok : goal.choice-returns-clause-ok
choice-returns-clause-ok t c = followed c.in_ok-first.ensures.ok c.in_ok-second.ensures.ok

pub closed_expression-returns : goal.closed_expression-returns
closed_expression-returns t c = record {
  ok = IfOk-weaker c.expect_after.result _ _ (λ r d. followed (IfOk-at_ok _ d.1 c.expression.ensures.ok) (mark d.2)) c.expect_after.ensures.ok;
  err = IfErr-weaker c.expect_after.result _ _ (λ s d. unended _ _ _ _ _ _ d c.expression.ensures.ok c.expression.ensures.err) c.expect_after.ensures.err;
}

pub operands-returns-in_err-left-clause-err : goal.operands-returns-in_err-left-clause-err
operands-returns-in_err-left-clause-err t c =
    failed _ c.from_residual.ensures.1 (lifted c.args.level 0 _ _ (omega arith) c.in_err-left.ensures.err)

pub operands-climbing-init : goal.operands-climbing-init
operands-climbing-init t c = climbs-first _ _ _ _ c.if-level-eq0.false c.in_ok-left.ensures.ok (takes tt c.in_ok-left.ensures.ok)

pub operands-returns-in_default-clause-ok : goal.operands-returns-in_default-clause-ok
operands-returns-in_default-clause-ok t c = climbs-end _ _ _ _ c.climbing.invariant (λ k h. c.in_default.ensures.none (level_of k))

pub operands-returns-then-found-level-clause-ok : goal.operands-returns-then-found-level-clause-ok
operands-returns-then-found-level-clause-ok t c = climbs-end _ _ _ _ c.climbing.invariant (further-out _ _ _ _ _ c.in-Some.ensures.some c.if-found-level.true)

pub operands-returns-then-found-level-clause-ends : goal.operands-returns-then-found-level-clause-ends
operands-returns-then-found-level-clause-ends t c = further-out _ _ _ _ _ c.in-Some.ensures.some c.if-found-level.true

pub operands-returns-in_err-right-clause-err : goal.operands-returns-in_err-right-clause-err
operands-returns-in_err-right-clause-err t c = failed _ c.from_residual-in_err-right.ensures.1
    (climbs-more-stuck _ _ _ _ _ _ _ _ c.climbing.invariant c.in-Some.ensures.some c.if-found-level.false c.in_err-right.ensures.err)

pub operands-returns-in_err-new-clause-err : goal.operands-returns-in_err-new-clause-err
operands-returns-in_err-new-clause-err t c = failed _ c.from_residual-in_err-new.ensures.1 without_memory

pub operands-climbing-preserved : goal.operands-climbing-preserved
operands-climbing-preserved t c =
    rw c.in_ok-new.ensures.ok (climbs-more _ _ _ _ _ _ _ _ _ c.climbing.invariant c.in-Some.ensures.some c.if-found-level.false
    c.in_ok-right.ensures.ok c.in_ok-right.ensures.ends
    (omega (arith, shorter c.in-Some.ensures.some.2, c.climbing.invariant.shorter, takes tt c.in_ok-right.ensures.ok)))

pub operand-returns-in_default-clause-err : goal.operand-returns-in_default-clause-err
operand-returns-in_default-clause-err t c = no-phrase c.in_default.ensures.none (λ after. refl)

pub operand-returns-in-Jump-clause-err : goal.operand-returns-in-Jump-clause-err
operand-returns-in-Jump-clause-err t c = no-phrase (at-first c.in-Some.ensures.some c.in-Jump.is) (λ after. refl)

pub operand-returns-in-Constant-clause-ok : goal.operand-returns-in-Constant-clause-ok
operand-returns-in-Constant-clause-ok t c = taken operand_constant is_constant (at-first c.in-Some.ensures.some c.in-Constant.is) refl read_nothing

pub operand-returns-in-None-clause-ok : goal.operand-returns-in-None-clause-ok
operand-returns-in-None-clause-ok t c =
    taken operand_name is_name (at-first c.in-Some.ensures.some c.in-Name.is) (no-index c.in-Name.name _ c.in-None.ensures.none) read_nothing

pub operand-returns-in_err-index-in-Some-starts-clause-err : goal.operand-returns-in_err-index-in-Some-starts-clause-err
operand-returns-in_err-index-in-Some-starts-clause-err t c = failed _ c.from_residual.ensures.1
    (begun operand_index is_name (at-first c.in-Some.ensures.some c.in-Name.is) (rw c.in-Some-starts.ensures.some)
    (past (mark c.in-Some-starts.ensures.some) c.in_err-index-in-Some-starts.ensures.err))

pub operand-returns-in_err-parts-in-Some-starts-clause-err : goal.operand-returns-in_err-parts-in-Some-starts-clause-err
operand-returns-in_err-parts-in-Some-starts-clause-err t c = failed _ c.from_residual-in_err-parts-in-Some-starts.ensures.1 without_memory

pub operand-returns-in_ok-parts-in-Some-starts-clause-ok : goal.operand-returns-in_ok-parts-in-Some-starts-clause-ok
operand-returns-in_ok-parts-in-Some-starts-clause-ok t c = rw c.in_ok-parts-in-Some-starts.ensures.ok
    (taken operand_index is_name (at-first c.in-Some.ensures.some c.in-Name.is) (rw c.in-Some-starts.ensures.some)
    (followed (mark c.in-Some-starts.ensures.some) c.in_ok-index-in-Some-starts.ensures.ok))

pub operand-returns-in_err-inner-in-The-clause-err : goal.operand-returns-in_err-inner-in-The-clause-err
operand-returns-in_err-inner-in-The-clause-err t c = failed _ c.from_residual-in_err-inner-in-The.ensures.1
    (begun (operand_unary c.in-Some-prefix_of.ensures.some) is_the (at-first c.in-Some.ensures.some c.in-The.is) (chosen-prefix _ _)
    (stops _ _ _ _ c.in_err-inner-in-The.ensures.err c.operand.ensures.err))

pub operand-returns-in-Some-prefix_of-clause-ok : goal.operand-returns-in-Some-prefix_of-clause-ok
operand-returns-in-Some-prefix_of-clause-ok t c =
    taken (operand_unary c.in-Some-prefix_of.ensures.some) is_the (at-first c.in-Some.ensures.some c.in-The.is) (chosen-prefix _ _)
    (IfOk-at_ok _ c.in_ok-inner-in-The.ensures.ok c.operand.ensures.ok)

pub operand-returns-in-LeftParen-clause-ok : goal.operand-returns-in-LeftParen-clause-ok
operand-returns-in-LeftParen-clause-ok t c = IfOk-weaker c.closed_expression-in-LeftParen.result _ _
    (λ r d. taken operand_paren is_the (at-mark c.in-Some.ensures.some c.in-The.is c.in-LeftParen.is) refl d)
    c.closed_expression-in-LeftParen.ensures.ok

pub operand-returns-in-LeftParen-clause-err : goal.operand-returns-in-LeftParen-clause-err
operand-returns-in-LeftParen-clause-err t c = IfErr-weaker c.closed_expression-in-LeftParen.result _ _
    (λ s h. begun operand_paren is_the (at-mark c.in-Some.ensures.some c.in-The.is c.in-LeftParen.is) refl h)
    c.closed_expression-in-LeftParen.ensures.err

pub operand-returns-in_default-mark-clause-err : goal.operand-returns-in_default-mark-clause-err
operand-returns-in_default-mark-clause-err t c = no-phrase (at-first c.in-Some.ensures.some c.in-The.is)
    (no-operand _ c.in_default-prefix_of.ensures.none c.in_default-mark.not-LeftParen)

pub expression-choice-requires : goal.expression-choice-requires
expression-choice-requires t c = (omega (arith, takes tt c.in_ok-condition.ensures.ok, shorter c.in-Some.ensures.some), tt)

pub choice-expression-requires : goal.choice-expression-requires
choice-expression-requires t c = (omega (arith, takes tt c.in_ok-first.ensures.ok), tt)

pub operand-operand-requires : goal.operand-operand-requires
operand-operand-requires t c = (omega (arith, shorter c.in-Some.ensures.some), tt)

pub operand-closed_expression-requires-in-LeftParen : goal.operand-closed_expression-requires-in-LeftParen
operand-closed_expression-requires-in-LeftParen t c = (omega (arith, shorter c.in-Some.ensures.some), tt)

pub operands-operands-requires : goal.operands-operands-requires
operands-operands-requires t c = (omega (arith, shorter c.in-Some.ensures.some.2, c.climbing.invariant.shorter), tt)

pub operand-closed_expression-requires : goal.operand-closed_expression-requires
operand-closed_expression-requires t c = (omega (arith, shorter c.in-Some.ensures.some, shorter c.in-Some-starts.ensures.some), tt)

pub operands-climbing-smaller : goal.operands-climbing-smaller
operands-climbing-smaller t c = omega (arith, shorter c.in-Some.ensures.some.2, takes tt c.in_ok-right.ensures.ok)
