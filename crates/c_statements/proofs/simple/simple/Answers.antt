use Rattle.std.proofs.Common.{◌≡◌, inr}
use Rattle.std.proofs.lemmas.Result.{IfErr-weaker}
use Rattle.c_statements.specs.Made.{IsSecond, IsStore}
use Rattle.c_statements.specs.Types.{assign_typed, store_typed, call_typed}
use Rattle.c_statements.proofs.Joins.{answers-as, answers-both, answers-is, answers-made}
use Rattle.c_statements.proofs.simple.simple.Goals as goal

pub returns-in-Assign : goal.returns-in-Assign
returns-in-Assign c = rw c.in-Assign.is
    (answers-made IsSecond (answers-both (answers-is c.place-to.ensures) c.value.ensures) c.second.ensures.ok
    (IfErr-weaker c.second.result _ _ (λ s h. inr h) c.second.ensures.err) (λ x d p e.
    let here : c.unwrap_or-at.result ≡ x.0 = rw p.0.1 at c.unwrap_or-at.ensures in rw e (assign_typed p.0.0 (rw here at p.1))))

pub returns-in-AssignAt : goal.returns-in-AssignAt
returns-in-AssignAt c = rw c.in-AssignAt.is
    (answers-made IsStore (answers-both c.array.ensures (answers-both c.expression-index.ensures c.expression-given.ensures)) c.store.ensures.ok
    (IfErr-weaker c.store.result _ _ (λ s h. inr h) c.store.ensures.err) (λ x d p e. rw e (store_typed p.0 p.1.0 p.1.1)))

pub returns-in-CallStatement : goal.returns-in-CallStatement
returns-in-CallStatement c = rw c.in-CallStatement.is (answers-as (λ t h. call_typed h) c.call_to.ensures)
