use Rattle.std.proofs.Common.{◌≡◌, ◌+◌, ◌-◌, refl, sym, ◌∙◌, ap, arith, rules, length}
use Rattle.c_typed.specs.Shape.{typed_expressions_of, statement_of, statements_of}
use Rattle.c_typed.specs.Trees.{block, call}
use Rattle.c_typed.proofs.Shapes.{block-is}
use Rattle.rtl_emit.specs.Blocks.{spot}
use Rattle.rtl_lower.specs.Sizes.{continues}
use Rattle.rtl_lower.proofs.Sizes.{any_of, weight, weight_within, one_left}
use Rattle.rtl_lower.proofs.Emitting.{simple_emits}
use Rattle.rtl_lower.proofs.Emitting.{more_emits, list_stopped, side_emits, if_emits, turn_emits, loop_emits, sealed}
use Rattle.rtl_lower.proofs.statement.+statements.Goals as goal

pub statement-returns-in-Block : goal.statement-returns-in-Block
statement-returns-in-Block t c =
    let is = ap statement_of c.in-Block.is ∙ block-is c.in-Block.all ∙ ap (λ l. block (statements_of l)) (sym c.as_slice.ensures.value) in
    rw is c.statements.ensures

pub statement-returns-in-Assign : goal.statement-returns-in-Assign
statement-returns-in-Assign t c =
    simple_emits c.args.context (spot c.args.after) (ap statement_of c.in-Assign.is) (λ n. refl) c.continuation_of.ensures c.assignment.ensures

pub statement-returns-in-Store : goal.statement-returns-in-Store
statement-returns-in-Store t c =
    simple_emits c.args.context (spot c.args.after) (ap statement_of c.in-Store.is) (λ n. refl) c.continuation_of-in-Store.ensures c.element_store.ensures

pub statement-returns-in-Call : goal.statement-returns-in-Call
statement-returns-in-Call t c =
    simple_emits c.args.context (spot c.args.after)
    (ap statement_of c.in-Call.is ∙ ap (λ es. call c.in-Call.to c.in-Call.function (typed_expressions_of es)) (sym c.as_slice-in-Call.ensures.value))
    (λ n. refl) c.continuation_of-in-Call.ensures c.call_code.ensures

pub statement-returns-in-Output : goal.statement-returns-in-Output
statement-returns-in-Output t c =
    simple_emits c.args.context (spot c.args.after) (ap statement_of c.in-Output.is) (λ n. refl) c.continuation_of-in-Output.ensures c.output_code.ensures

pub statement-returns-in-Return : goal.statement-returns-in-Return
statement-returns-in-Return t c =
    simple_emits c.args.context (spot c.args.after) (ap statement_of c.in-Return.is) (λ n. refl) c.continuation_of-in-Return.ensures
    (c.return_code.ensures (spot c.args.after))

pub side_block-returns : goal.side_block-returns
side_block-returns t c =
    let join = c.block_of.ensures in
    side_emits _ _ _ _ c.args.context _ c.in_ok-code.code _ c.in_ok-code.ensures join.grows join.count join.insts join.limit join.sound join.lands

pub if_statement-returns : goal.if_statement-returns
if_statement-returns t c =
    let join = c.in_ok-join.ensures in
    if_emits _ _ _ c.args.context c.is_likely.ensures
    (sealed (spot c.args.after) join.grows join.count join.insts join.sound join.lands) c.in_ok-yes_block.ensures c.in_ok-no_block.ensures
    c.condition.ensures

pub turn_of-returns : goal.turn_of-returns
turn_of-returns t c = turn_emits _ _ c.args.context _ c.args.again c.in_ok-bottom.ensures c.in_ok-code.ensures c.turn_to.ensures

pub loop_statement-returns : goal.loop_statement-returns
loop_statement-returns t c =
    let join = c.in_ok-left.ensures in
    let head = c.in_ok-head.ensures in
    loop_emits _ _ _ c.args.context (sealed (spot c.args.after) join.grows join.count join.insts join.sound join.lands) head.reserves
    (rw c.may_continue.ensures at c.in_ok-turn.ensures) (rw c.inside_loop-inner.ensures at c.in_ok-body_code.ensures) head.insts head.sound
    c.in_ok-top.ensures c.open_block.ensures
    c.fill.ensures.fills c.fill.ensures.insts c.fill.ensures.sound

pub statements-returns : goal.statements-returns
statements-returns t c =
    let none : length c.args.all.now - c.loop-done.done ≡ 0 = omega (arith, c.loop-done-test.false) in
    rw none at c.loop-done.invariant

pub statements-loop-done-preserved : goal.statements-loop-done-preserved
statements-loop-done-preserved t c =
    more_emits _ _ _ _ _ _ c.args.context (spot c.args.after) c.loop-done.code _
    (one_left c.args.all.now c.index-all-count.result c.loop-done.done c.loop-done-test.true c.index-all-count.is) c.loop-done.invariant c.in_ok-code.ensures

pub statements-returns-in_err-code : goal.statements-returns-in_err-code
statements-returns-in_err-code t c =
    list_stopped c.args.all.now (length c.args.all.now - (c.loop-done.done + 1)) c.args.context (spot c.args.after) (search rules)
    (more_emits _ _ _ _ _ _ c.args.context (spot c.args.after) c.loop-done.code _
    (one_left c.args.all.now c.index-all-count.result c.loop-done.done c.loop-done-test.true c.index-all-count.is) c.loop-done.invariant c.in_err-code.ensures)

pub statements-statement-requires : goal.statements-statement-requires
statements-statement-requires t c = (
  (let h = weight_within c.args.all.now (length c.args.all.now - 1 - c.loop-done.done) c.index-all-count.result (omega (arith, c.loop-done-test.true)) in
      omega (arith, h, ap (λ s. weight (statement_of s)) c.index-all-count.is)),
  λ e. c.requires.next (any_of c.args.all.now (length c.args.all.now - 1 - c.loop-done.done) c.index-all-count.result
      (omega (arith, c.loop-done-test.true)) c.index-all-count.is e),
)

pub statement-statements-requires : goal.statement-statements-requires
statement-statements-requires t c =
    let is = (ap statement_of c.in-Block.is) ∙ block-is c.in-Block.all ∙ ap (λ l. block (statements_of l)) (sym c.as_slice.ensures.value) in
    (omega (arith, ap weight is), λ e. c.requires.next (ap continues is ∙ e))
