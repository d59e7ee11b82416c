use Rattle.std.proofs.Common.{refl, []}
use Rattle.c_front.specs.Reading.{read_nothing}
use Rattle.std.proofs.lemmas.Result.{IfOk-weaker, IfErr-weaker}
use Rattle.c_tokens.specs.declared.token.Mark.TheVariants.{Semicolon}
use Rattle.c_front.specs.Grammar.{statement_break, statement_continue, statement_return, is_jump}
use Rattle.c_front.proofs.Ends.{failed, plain-ended, unended}
use Rattle.c_front.proofs.Steps.{mark, taken, begun}
use Rattle.c_front.proofs.statement.jump.Goals as goal

pub returns-in-Break-clause-err : goal.returns-in-Break-clause-err
returns-in-Break-clause-err c = IfErr-weaker c.expect_after.result _ _
    (λ s d. rw c.in-Break.is (begun statement_break is_jump refl refl (unended _ _ [] _ (λ _. tt) s d read_nothing tt))) c.expect_after.ensures.err

pub returns-in-Break-clause-ok : goal.returns-in-Break-clause-ok
returns-in-Break-clause-ok c = IfOk-weaker c.expect_after.result _ _
    (λ r d. let h = plain-ended Semicolon r d in rw (c.in-Break.is, h.0) (taken statement_break is_jump refl refl (mark h.1))) c.expect_after.ensures.ok

pub returns-in-Continue-clause-err : goal.returns-in-Continue-clause-err
returns-in-Continue-clause-err c = IfErr-weaker c.expect_after-in-Continue.result _ _
    (λ s d. rw c.in-Continue.is (begun statement_continue is_jump refl refl (unended _ _ [] _ (λ _. tt) s d read_nothing tt)))
    c.expect_after-in-Continue.ensures.err

pub returns-in-Continue-clause-ok : goal.returns-in-Continue-clause-ok
returns-in-Continue-clause-ok c = IfOk-weaker c.expect_after-in-Continue.result _ _
    (λ r d. let h = plain-ended Semicolon r d in rw (c.in-Continue.is, h.0) (taken statement_continue is_jump refl refl (mark h.1)))
    c.expect_after-in-Continue.ensures.ok

pub returns-in_err-given-in-Return-clause-err : goal.returns-in_err-given-in-Return-clause-err
returns-in_err-given-in-Return-clause-err c =
    rw c.in-Return.is (failed _ c.from_residual.ensures.1 (begun statement_return is_jump refl refl c.in_err-given-in-Return.ensures.err))

pub returns-in_ok-given-in-Return-clause-ok : goal.returns-in_ok-given-in-Return-clause-ok
returns-in_ok-given-in-Return-clause-ok c = rw c.in-Return.is (taken statement_return is_jump refl refl c.in_ok-given-in-Return.ensures.ok)
