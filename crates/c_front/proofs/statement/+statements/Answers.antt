use Rattle.std.proofs.Common.{arith, refl, sym}
use Rattle.c_front.specs.Grammar.{an_item, else_part, is_the, is_name, items_end, items_more, item_declare, item_statement, statement_empty}
use Rattle.c_front.specs.Grammar.{statement_block, statement_if, statement_while, statement_for, statement_simple, else_none, else_some}
use Rattle.c_tree.specs.Shape.{items_of}
use Rattle.std.proofs.lemmas.Result.{IfOk-at_ok, IfOk-weaker, IfErr-weaker}
use Rattle.c_front.proofs.Reading.{takes, takes-token}
use Rattle.c_front.proofs.Ends.{failed, stops, unended}
use Rattle.c_front.proofs.Steps.{at-first, at-mark, shorter, followed, one, mark, whole, taken, past, within, inside, begun, no-phrase, name-missing}
use Rattle.c_front.proofs.Steps.{goes-more}
use Rattle.c_tree.proofs.Shapes.{block-is}
use Rattle.c_front.proofs.Choices.{items_of-append, no-mark, after-none, after-after, otherwise, type-item}
use Rattle.c_front.specs.Reading.{read_nothing}
use Rattle.c_front.specs.Parsing.{without_memory}
use Rattle.c_front.proofs.statement.+statements.Goals as goal

pub statement-returns-in_default-clause-err : goal.statement-returns-in_default-clause-err
statement-returns-in_default-clause-err t c = no-phrase c.in_default.ensures.none (λ after. refl)

pub statement-returns-in_default-mark-clause-err : goal.statement-returns-in_default-mark-clause-err
statement-returns-in_default-mark-clause-err t c =
    let d = c.in_default-mark in
    no-phrase (at-first c.in-Some.ensures.some c.in-The.is) (λ after. no-mark _ d.not-Semicolon d.not-LeftBrace d.not-If d.not-While d.not-For)

pub statement-returns-in-Constant-clause-err : goal.statement-returns-in-Constant-clause-err
statement-returns-in-Constant-clause-err t c = no-phrase (at-first c.in-Some.ensures.some c.in-Constant.is) (λ after. refl)

pub statement-returns-in-Semicolon-clause-ok : goal.statement-returns-in-Semicolon-clause-ok
statement-returns-in-Semicolon-clause-ok t c =
    taken statement_empty is_the (at-mark c.in-Some.ensures.some c.in-The.is c.in-Semicolon.is) refl read_nothing

pub statement-returns-in_err-all-in-LeftBrace-clause-err : goal.statement-returns-in_err-all-in-LeftBrace-clause-err
statement-returns-in_err-all-in-LeftBrace-clause-err t c = failed _ c.from_residual-in_err-all-in-LeftBrace.ensures.1
    (begun statement_block is_the (at-mark c.in-Some.ensures.some c.in-The.is c.in-LeftBrace.is) refl
    (unended _ _ _ _ _ _ c.in_err-all-in-LeftBrace.ensures.err c.items.ensures.ok c.items.ensures.err))

pub statement-returns-in_ok-all-in-LeftBrace-clause-ok : goal.statement-returns-in_ok-all-in-LeftBrace-clause-ok
statement-returns-in_ok-all-in-LeftBrace-clause-ok t c =
    let d = c.in_ok-all-in-LeftBrace.ensures.ok in
    rw (block-is c.in_ok-all-in-LeftBrace.all) (taken statement_block is_the (at-mark c.in-Some.ensures.some c.in-The.is c.in-LeftBrace.is) refl
    (followed (IfOk-at_ok _ d.1 c.items.ensures.ok) (mark d.2)))

pub statement-returns-in_err-inner-in-Name-clause-err : goal.statement-returns-in_err-inner-in-Name-clause-err
statement-returns-in_err-inner-in-Name-clause-err t c = rw (at-first c.in-Some.ensures.some c.in-Name.is) (failed _ c.from_residual.ensures.1
    (inside statement_simple refl (λ z. z) (unended _ _ _ _ _ _ c.in_err-inner-in-Name.ensures.err c.simple.ensures.ok c.simple.ensures.err)))

pub statement-returns-in_ok-inner-in-Name-clause-ok : goal.statement-returns-in_ok-inner-in-Name-clause-ok
statement-returns-in_ok-inner-in-Name-clause-ok t c =
    let d = c.in_ok-inner-in-Name.ensures.ok in
    rw (at-first c.in-Some.ensures.some c.in-Name.is) (whole statement_simple refl (followed (IfOk-at_ok _ d.1 c.simple.ensures.ok) (mark d.2)))

pub statement-returns-in-If-clause-ok : goal.statement-returns-in-If-clause-ok
statement-returns-in-If-clause-ok t c = IfOk-weaker c.if_then.result _ _
    (λ r d. rw d.4 (taken statement_if is_the (at-mark c.in-Some.ensures.some c.in-The.is c.in-If.is) refl d.3)) c.if_then.ensures.ok

pub statement-returns-in-If-clause-err : goal.statement-returns-in-If-clause-err
statement-returns-in-If-clause-err t c = IfErr-weaker c.if_then.result _ _
    (λ s h. begun statement_if is_the (at-mark c.in-Some.ensures.some c.in-The.is c.in-If.is) refl h) c.if_then.ensures.err

pub statement-returns-in-While-clause-ok : goal.statement-returns-in-While-clause-ok
statement-returns-in-While-clause-ok t c = rw (at-mark c.in-Some.ensures.some c.in-The.is c.in-While.is) c.while_loop.ensures.ok

pub statement-returns-in-While-clause-err : goal.statement-returns-in-While-clause-err
statement-returns-in-While-clause-err t c = rw (at-mark c.in-Some.ensures.some c.in-The.is c.in-While.is) c.while_loop.ensures.err

pub statement-returns-in-For-clause-ok : goal.statement-returns-in-For-clause-ok
statement-returns-in-For-clause-ok t c = rw (at-mark c.in-Some.ensures.some c.in-The.is c.in-For.is) c.for_loop.ensures.ok

pub statement-returns-in-For-clause-err : goal.statement-returns-in-For-clause-err
statement-returns-in-For-clause-err t c = rw (at-mark c.in-Some.ensures.some c.in-The.is c.in-For.is) c.for_loop.ensures.err

pub statement-returns-in-Jump-clause-ok : goal.statement-returns-in-Jump-clause-ok
statement-returns-in-Jump-clause-ok t c = rw (at-first c.in-Some.ensures.some c.in-Jump.is) c.jump.ensures.ok

pub statement-returns-in-Jump-clause-err : goal.statement-returns-in-Jump-clause-err
statement-returns-in-Jump-clause-err t c = rw (at-first c.in-Some.ensures.some c.in-Jump.is) c.jump.ensures.err

pub if_then-returns-in_err-test-clause-err : goal.if_then-returns-in_err-test-clause-err
if_then-returns-in_err-test-clause-err t c = failed _ c.from_residual.ensures.1 (within _ c.in_err-test.ensures.err)

pub if_then-returns-in_err-first-clause-err : goal.if_then-returns-in_err-first-clause-err
if_then-returns-in_err-first-clause-err t c = failed _ c.from_residual-in_err-first.ensures.1
    (past c.in_ok-test.ensures.ok (within _ (stops _ _ _ _ c.in_err-first.ensures.err c.statement.ensures.err)))

pub if_then-returns-in_err-second-in-Some-clause-err : goal.if_then-returns-in_err-second-in-Some-clause-err
if_then-returns-in_err-second-in-Some-clause-err t c = failed _ c.from_residual-in_err-second-in-Some.ensures.1
    (past c.in_ok-test.ensures.ok (past (IfOk-at_ok _ c.in_ok-first.ensures.ok c.statement.ensures.ok)
    (begun else_some is_the c.in-Some.ensures.some refl (stops _ _ _ _ c.in_err-second-in-Some.ensures.err c.statement-in-Some.ensures.err))))

pub if_then-returns-in_ok-second-in-Some-clause-ok : goal.if_then-returns-in_ok-second-in-Some-clause-ok
if_then-returns-in_ok-second-in-Some-clause-ok t c = (
  _,
  _,
  _,
  followed c.in_ok-test.ensures.ok (followed (IfOk-at_ok _ c.in_ok-first.ensures.ok c.statement.ensures.ok)
      (taken else_some is_the c.in-Some.ensures.some refl (IfOk-at_ok _ c.in_ok-second-in-Some.ensures.ok c.statement-in-Some.ensures.ok))),
  refl,
)

pub if_then-returns-in-None-clause-ok : goal.if_then-returns-in-None-clause-ok
if_then-returns-in-None-clause-ok t c = (
  _,
  _,
  _,
  followed c.in_ok-test.ensures.ok (followed (IfOk-at_ok _ c.in_ok-first.ensures.ok c.statement.ensures.ok)
      (whole else_none (otherwise else_part _ c.in-None.ensures.none) read_nothing)),
  refl,
)

pub while_loop-returns-in_err-test-clause-err : goal.while_loop-returns-in_err-test-clause-err
while_loop-returns-in_err-test-clause-err t c =
    failed _ c.from_residual.ensures.1 (begun statement_while is_the refl refl (within _ c.in_err-test.ensures.err))

pub while_loop-returns-in_err-body-clause-err : goal.while_loop-returns-in_err-body-clause-err
while_loop-returns-in_err-body-clause-err t c = failed _ c.from_residual-in_err-body.ensures.1
    (begun statement_while is_the refl refl (past c.in_ok-test.ensures.ok (stops _ _ _ _ c.in_err-body.ensures.err c.statement.ensures.err)))

pub while_loop-returns-clause-ok : goal.while_loop-returns-clause-ok
while_loop-returns-clause-ok t c =
    taken statement_while is_the refl refl (followed c.in_ok-test.ensures.ok (IfOk-at_ok _ c.in_ok-body.ensures.ok c.statement.ensures.ok))

pub for_loop-returns-in_err-parts-clause-err : goal.for_loop-returns-in_err-parts-clause-err
for_loop-returns-in_err-parts-clause-err t c = failed _ c.from_residual.ensures.1
    (begun statement_for is_the refl refl (within _ (stops _ _ _ _ c.in_err-parts.ensures.err c.for_parts.ensures.err)))

pub for_loop-returns-in_err-body-clause-err : goal.for_loop-returns-in_err-body-clause-err
for_loop-returns-in_err-body-clause-err t c = failed _ c.from_residual-in_err-body.ensures.1 (begun statement_for is_the refl refl
    (past (IfOk-at_ok _ c.in_ok-parts.ensures.ok c.for_parts.ensures.ok) (stops _ _ _ _ c.in_err-body.ensures.err c.statement.ensures.err)))

pub for_loop-returns-clause-ok : goal.for_loop-returns-clause-ok
for_loop-returns-clause-ok t c = taken statement_for is_the refl refl
    (followed (IfOk-at_ok _ c.in_ok-parts.ensures.ok c.for_parts.ensures.ok) (IfOk-at_ok _ c.in_ok-body.ensures.ok c.statement.ensures.ok))

pub item-returns-in_err-name-in-Some-clause-err : goal.item-returns-in_err-name-in-Some-clause-err
item-returns-in_err-name-in-Some-clause-err t c = failed _ c.from_residual.ensures.1
    (inside item_declare (type-item c.in-Some.ensures.some) (λ z. z) (past c.in-Some.ensures.some (name-missing c.in_err-name-in-Some.ensures.err)))

pub item-returns-in_err-given-in-Some-clause-err : goal.item-returns-in_err-given-in-Some-clause-err
item-returns-in_err-given-in-Some-clause-err t c = failed _ c.from_residual-in_err-given-in-Some.ensures.1
    (inside item_declare (type-item c.in-Some.ensures.some) (λ z. z) (past c.in-Some.ensures.some
    (past (one is_name c.in_ok-name-in-Some.ensures.ok)
    (unended _ _ _ _ _ _ c.in_err-given-in-Some.ensures.err c.first_value.ensures.ok c.first_value.ensures.err))))

pub item-returns-in_ok-given-in-Some-clause-ok : goal.item-returns-in_ok-given-in-Some-clause-ok
item-returns-in_ok-given-in-Some-clause-ok t c =
    let d = c.in_ok-given-in-Some.ensures.ok in
    whole item_declare (type-item c.in-Some.ensures.some) (followed c.in-Some.ensures.some
    (followed (one is_name c.in_ok-name-in-Some.ensures.ok) (followed (IfOk-at_ok _ d.1 c.first_value.ensures.ok) (mark d.2))))

pub item-returns-in_err-inner-in-None-clause-err : goal.item-returns-in_err-inner-in-None-clause-err
item-returns-in_err-inner-in-None-clause-err t c = let h = c.in-None.ensures.none in
    failed _ c.from_residual-in_err-inner-in-None.ensures.1 (inside item_statement (otherwise an_item _ h) (λ z. z) c.in_err-inner-in-None.ensures.err)

pub item-returns-in_ok-inner-in-None-clause-ok : goal.item-returns-in_ok-inner-in-None-clause-ok
item-returns-in_ok-inner-in-None-clause-ok t c = let h = c.in-None.ensures.none in
    whole item_statement (otherwise an_item _ h) c.in_ok-inner-in-None.ensures.ok

pub items-returns-clause-ok : goal.items-returns-clause-ok
items-returns-clause-ok t c = rw (sym (after-none (items_of c.items.all.items)))
    (c.items.invariant.goes.reads _ _ (whole items_end (c.ends_items.ensures.ends c.items-test.false) read_nothing))

pub items-returns-in_default-clause-err : goal.items-returns-in_default-clause-err
items-returns-in_default-clause-err t c = without_memory

pub items-returns-in_err-rest-clause-err : goal.items-returns-in_err-rest-clause-err
items-returns-in_err-rest-clause-err t c =
    failed _ c.from_residual.ensures.1 (c.items.invariant.goes.stuck _
    (inside items_more (c.ends_items.ensures.more c.items-test.true) (λ z. z) (within _ (stops _ _ _ _ c.in_err-rest.ensures.err c.item.ensures.err))))

pub items-items-preserved : goal.items-items-preserved
items-items-preserved t c =
    let r = c.in_ok-rest.ensures.ok in
    rw (r.2, items_of-append c.items.all.items r.0) (record {
      goes = goes-more c.items.invariant.goes items_more (c.ends_items.ensures.more c.items-test.true) (λ z. z)
          (IfOk-at_ok _ r.1 c.item.ensures.ok) (after-after (items_of c.items.all.items) _);
      shorter = omega (arith, c.items.invariant.shorter, takes tt (IfOk-at_ok _ r.1 c.item.ensures.ok));
    })

pub if_then-statement-requires : goal.if_then-statement-requires
if_then-statement-requires t c = (omega (arith, takes-token c.in_ok-test.ensures.ok), tt)

pub while_loop-statement-requires : goal.while_loop-statement-requires
while_loop-statement-requires t c = (omega (arith, takes-token c.in_ok-test.ensures.ok), tt)

pub for_loop-statement-requires : goal.for_loop-statement-requires
for_loop-statement-requires t c = (omega (arith, takes-token (IfOk-at_ok _ c.in_ok-parts.ensures.ok c.for_parts.ensures.ok)), tt)

pub if_then-statement-requires-in-Some : goal.if_then-statement-requires-in-Some
if_then-statement-requires-in-Some t c = (
  omega (arith, takes-token c.in_ok-test.ensures.ok, takes tt (IfOk-at_ok _ c.in_ok-first.ensures.ok c.statement.ensures.ok), shorter c.in-Some.ensures.some),
  tt,
)

pub statement-items-requires : goal.statement-items-requires
statement-items-requires t c = (omega (arith, shorter c.in-Some.ensures.some), tt)

pub statement-if_then-requires : goal.statement-if_then-requires
statement-if_then-requires t c = (omega (arith, shorter c.in-Some.ensures.some), tt)

pub statement-while_loop-requires : goal.statement-while_loop-requires
statement-while_loop-requires t c = (omega (arith, shorter c.in-Some.ensures.some), tt)

pub statement-for_loop-requires : goal.statement-for_loop-requires
statement-for_loop-requires t c = (omega (arith, shorter c.in-Some.ensures.some), tt)

pub items-items-smaller : goal.items-items-smaller
items-items-smaller t c = takes tt (IfOk-at_ok _ c.in_ok-rest.ensures.ok.1 c.item.ensures.ok)
