use Rattle.std.proofs.Common.{◌≡◌, ◌+◌, List, true, Result, Err, rules, refl, sym, ap, arith, ◌∙◌}
use Rattle.c_tree.specs.declared.tree.Item.{Item}
use Rattle.c_tree.specs.Shape.{statement_of, item_of, items_of}
use Rattle.c_tree.specs.Tree.{block, statement, declare}
use Rattle.c_tree.proofs.Shapes.{block-is as read-block-is}
use Rattle.c_typed.specs.declared.tree.TypedStatement.{TypedStatement as Typed, Break, Continue}
use Rattle.c_statements.specs.declared.fault.TypeStop.{TypeStop}
use Rattle.c_statements.specs.declared.fault.TypeStop.TheVariants.{NoMemory}
use Rattle.c_statements.specs.Shape.{scopes_of}
use Rattle.c_statements.specs.Names.{Scopes, behind_item}
use Rattle.c_statements.specs.Types.{empty_typed, block_typed, break_typed, continue_typed, if_then_typed, if_then_else_typed, while_loop_typed, for_loop_typed}
use Rattle.c_statements.specs.Types.{simply_typed, no_items_typed, statement_typed, declare_typed}
use Rattle.c_statements.proofs.BlockItems.{none-so-far, one-so-far, behind-so-far, behind-block}
use Rattle.c_typed.proofs.Shapes.{block-is}
use Rattle.c_statements.specs.Made.{IsIf, IsLoop, IsSequence}
use Rattle.c_statements.proofs.Joins.{answers-alone, answers-as, answers-both, answers-kept, answers-left, answers-made, answers-next, answers-right}
use Rattle.c_statements.proofs.Weights.{weight, weight_of, weight_all, weight-within, inside-weighs-less}
use Rattle.c_statements.proofs.statement.+statements.Goals as goal

pub block-returns-in_err-typed : goal.block-returns-in_err-typed
block-returns-in_err-typed t c = record {
  typed = search rules;
  scopes = let refused : Result Typed TypeStop = Err NoMemory in
      let lasts : c.items-typed.result ≡ Err NoMemory → c.from_residual-in_err-typed.result ≡ refused = search rules in
      λ n. behind-block _ _ c.in_ok-enter.ensures.scopes (c.items-typed.ensures.scopes (λ e. n (lasts e))) c.leave.ensures;
}

pub block-returns : goal.block-returns
block-returns t c = record {
  typed = record {
    ok = rw (block-is c.in_ok-typed.field-0) (block_typed (rw c.in_ok-enter.ensures.scopes at c.in_ok-typed.ensures.typed.ok));
    none = search rules;
    err = tt;
  };
  scopes = λ n. behind-block _ _ c.in_ok-enter.ensures.scopes (c.items-typed.ensures.scopes (λ e. let f = sym c.in_ok-typed.was ∙ e in cc)) c.leave.ensures;
}

pub block-items-typed-requires : goal.block-items-typed-requires
block-items-typed-requires t c = (omega arith, tt)

pub if_then-returns : goal.if_then-returns
if_then-returns t c = record {
  typed = answers-made IsIf (answers-both c.expression-condition.ensures (answers-left c.statement-first.ensures.typed)) c.if_else.ensures.ok
      c.if_else.ensures.err (λ x d p e. rw (e, p.1.1) (if_then_typed p.0 p.1.0));
  scopes = search rules;
}

pub if_then-statement-first-requires : goal.if_then-statement-first-requires
if_then-statement-first-requires t c = (omega arith, tt)

pub while_loop-returns : goal.while_loop-returns
while_loop-returns t c = record {
  typed = answers-made IsLoop (answers-both c.expression-condition.ensures (answers-right c.statement-body.ensures.typed)) c.loop_of.ensures.ok
      c.loop_of.ensures.err (λ x d p e. rw (e, p.1.0) (while_loop_typed p.0 p.1.1));
  scopes = search rules;
}

pub while_loop-statement-body-requires : goal.while_loop-statement-body-requires
while_loop-statement-body-requires t c = (omega arith, tt)

pub if_then_else-returns : goal.if_then_else-returns
if_then_else-returns t c = record {
  typed = let second = answers-next c.statement-first.ensures.typed (λ n. rw (c.statement-first.ensures.scopes n) at c.statement-second.ensures.typed) in
      answers-made IsIf (answers-both c.expression-condition.ensures second) c.if_else.ensures.ok c.if_else.ensures.err
      (λ x d p e. rw e (if_then_else_typed p.0 p.1.0 p.1.1));
  scopes = search rules;
}

pub if_then_else-statement-first-requires : goal.if_then_else-statement-first-requires
if_then_else-statement-first-requires t c = (omega arith, tt)

pub if_then_else-statement-second-requires : goal.if_then_else-statement-second-requires
if_then_else-statement-second-requires t c = (omega arith, tt)

pub for_loop-returns : goal.for_loop-returns
for_loop-returns t c = record {
  typed = let parts = answers-both c.test-condition.ensures (answers-both c.part-last.ensures c.statement-body.ensures.typed) in
      let turns = answers-kept IsLoop parts c.loop_of.ensures.ok c.loop_of.ensures.err in
      answers-made IsSequence (answers-both c.part-first.ensures turns) c.sequence.ensures.ok c.sequence.ensures.err
      (λ x d p e. let l = p.1 in rw (e, l.2) (for_loop_typed p.0 l.1.0 l.1.1.0 l.1.1.1));
  scopes = search rules;
}

pub for_loop-statement-body-requires : goal.for_loop-statement-body-requires
for_loop-statement-body-requires t c = (omega arith, tt)

pub item-returns-in-Declare-clause-typed : goal.item-returns-in-Declare-clause-typed
item-returns-in-Declare-clause-typed t c =
    rw c.in-Declare.is (answers-alone (answers-as (λ u h. declare_typed h no_items_typed) c.declare.ensures.typed))

pub item-returns-in-Statement-clause-typed : goal.item-returns-in-Statement-clause-typed
item-returns-in-Statement-clause-typed t c =
    rw c.in-Statement.is (answers-alone (answers-as (λ u h. statement_typed h no_items_typed) c.statement.ensures.typed))

pub item-statement-requires : goal.item-statement-requires
item-statement-requires t c =
    let w : weight_of (item_of c.args.one.now) ≡ weight (statement_of c.in-Statement.s) + 1 = ap (λ i. weight_of (item_of i)) c.in-Statement.is in
    (omega (arith, w), tt)

pub items-loop-one-init : goal.items-loop-one-init
items-loop-one-init t c =
    record { so_far = none-so-far _ c.args.context.now.gives c.args.context.now.in_loop (scopes_of c.args.scopes.now) _ c.in_ok-with_capacity.ensures.items; scopes = refl }

pub items-loop-one-preserved : goal.items-loop-one-preserved
items-loop-one-preserved t c =
    let next = rw (← c.in_ok-next.ensures.ok.0, c.loop-one.invariant.scopes) at c.item.ensures.typed in
    record {
      so_far = one-so-far _ _ _ _ _ c.loop-one-test.true c.one-item.is c.loop-one.invariant.so_far next c.with_one-typed.ensures.ok c.with_one-typed.ensures.err;
      scopes = behind-so-far c.args.context.now.program.now.text.items (scopes_of c.args.scopes.now)
          (scopes_of c.item.new.scopes) c.args.all.now c.loop-one.one-index c.one-item.result c.loop-one-test.true c.one-item.is
          (c.item.ensures.scopes c.in_ok-next.ensures.ok.1
          ∙ ap (λ (s : Scopes). behind_item c.args.context.now.program.now.text.items s (item_of c.one-item.result)) c.loop-one.invariant.scopes);
    }

pub items-item-requires : goal.items-item-requires
items-item-requires t c =
    (let h = weight-within c.args.all.now c.loop-one.one-index c.one-item.result c.loop-one-test.true c.one-item.is in omega (arith, h), tt)

pub statement-block-requires : goal.statement-block-requires
statement-block-requires t c =
    let e : statement_of c.args.s.now ≡ block (items_of c.deref.result.now) = ap statement_of c.in-Block.is ∙ read-block-is c.in-Block.all
    ∙ ap (λ (xs : List Item). block (items_of xs)) (sym c.deref.ensures.value) in
    let w : weight (statement_of c.args.s.now) ≡ weight_all (items_of c.deref.result.now) + 3 = ap weight e in
    (omega (arith, w), tt)

pub statement-returns-in-Block : goal.statement-returns-in-Block
statement-returns-in-Block t c =
    let e : statement_of c.args.s.now ≡ block (items_of c.deref.result.now) = ap statement_of c.in-Block.is ∙ read-block-is c.in-Block.all
    ∙ ap (λ (xs : List Item). block (items_of xs)) (sym c.deref.ensures.value) in
    record { typed = rw e c.block.ensures.typed; scopes = rw e c.block.ensures.scopes }

pub statement-returns-in-Empty : goal.statement-returns-in-Empty
statement-returns-in-Empty t c = record { typed = rw c.in-Empty.is record { ok = empty_typed; none = search rules; err = tt }; scopes = search rules }

pub statement-returns-in-Break : goal.statement-returns-in-Break
statement-returns-in-Break t c = record {
  typed = rw c.in-Break.is (answers-as {P = λ u. u ≡ Break} (λ u e. rw e break_typed) c.jump.ensures);
  scopes = search rules;
}

pub statement-returns-in-Continue : goal.statement-returns-in-Continue
statement-returns-in-Continue t c = record {
  typed = rw c.in-Continue.is (answers-as {P = λ u. u ≡ Continue} (λ u e. rw e continue_typed) c.jump-in-Continue.ensures);
  scopes = search rules;
}

pub statement-returns-in-Return : goal.statement-returns-in-Return
statement-returns-in-Return t c = record { typed = rw c.in-Return.is c.return_from.ensures; scopes = search rules }

pub statement-returns-in-Simply : goal.statement-returns-in-Simply
statement-returns-in-Simply t c = record { typed = rw c.in-Simply.is (answers-as (λ u h. simply_typed h) c.simple.ensures); scopes = search rules }

pub statement-if_then-requires : goal.statement-if_then-requires
statement-if_then-requires t c =
    (omega (arith, inside-weighs-less c.args.s.now c.in-If.first.value _ (ap (λ s. weight (statement_of s)) c.in-If.is) c.deref-in-If.ensures), tt)

pub statement-if_then_else-requires : goal.statement-if_then_else-requires
statement-if_then_else-requires t c =
    let w : weight (statement_of c.args.s.now) ≡ weight (statement_of c.in-IfElse.first.value) + weight (statement_of c.in-IfElse.second.value) + 2 = ap (λ s. weight (statement_of s)) c.in-IfElse.is in
    let a : weight (statement_of c.deref-in-IfElse.result.now) ≡ weight (statement_of c.in-IfElse.first.value) = ap (λ s. weight (statement_of s)) c.deref-in-IfElse.ensures in
    let b : weight (statement_of c.deref-in-IfElse-2.result.now) ≡ weight (statement_of c.in-IfElse.second.value) = ap (λ s. weight (statement_of s)) c.deref-in-IfElse-2.ensures in
    (omega (arith, w, a, b), tt)

pub statement-while_loop-requires : goal.statement-while_loop-requires
statement-while_loop-requires t c =
    (omega (arith, inside-weighs-less c.args.s.now c.in-While.body.value _ (ap (λ s. weight (statement_of s)) c.in-While.is) c.deref-in-While.ensures), tt)

pub statement-for_loop-requires : goal.statement-for_loop-requires
statement-for_loop-requires t c =
    (omega (arith, inside-weighs-less c.args.s.now c.in-For.body.value _ (ap (λ s. weight (statement_of s)) c.in-For.is) c.deref-in-For-2.ensures), tt)
