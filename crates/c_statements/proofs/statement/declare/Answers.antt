use Rattle.std.proofs.Common.{inr}
use Rattle.std.proofs.lemmas.Result.{IfErr-weaker}
use Rattle.c_statements.specs.Made.{IsSecond}
use Rattle.c_statements.proofs.Joins.{answers-both, answers-made, answers-of}
use Rattle.c_statements.proofs.statement.declare.Goals as goal

pub returns-clause-typed : goal.returns-clause-typed
returns-clause-typed c =
    let first = rw (c.in_ok-declare_local.ensures.scopes, c.locals-number.ensures) at c.first_value.ensures in
    answers-made IsSecond (answers-both (answers-of c.declarator-refused.ensures.none c.declarator-refused.ensures.err) first) c.second.ensures.ok
    (IfErr-weaker c.second.result _ _ (λ s h. inr h) c.second.ensures.err) (λ x d p e. rw e p.1)
