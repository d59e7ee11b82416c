use Rattle.std.proofs.Common.{◌+◌, ◌∙◌, ap, arith, refl, rules, sym}
use Rattle.c_typed.specs.Shape.{typed_expression_of}
use Rattle.rtl_emit.specs.Blocks.{spot}
use Rattle.rtl_emit.specs.Emits.{value_size, condition_size}
use Rattle.rtl_emit.specs.Sizes.{joint, value_blocks, condition_blocks}
use Rattle.rtl_emit.proofs.Blocks.{grows_then}
use Rattle.rtl_emit.proofs.Emitted.{element_is, unary_is, binary_is, conditional_is}
use Rattle.rtl_emit.proofs.Emitting.{logical_is, stopped, element_emits, prefix_emits, identity_emits, not_emits, told_emits, both_emits, operator_emits}
use Rattle.rtl_emit.proofs.Emitting.{part_refused, refused, grows_same, block_emits, logical_branches, conditional_emits, constant_emits}
use Rattle.rtl_emit.proofs.Emitting.{not_branches, conditional_branches, contrary_emits, test_emits, operand_emits}
use Rattle.rtl_emit.proofs.expression.+expressions.Goals as goal

pub value_into-returns-in-Local : goal.value_into-returns-in-Local
value_into-returns-in-Local t c = rw (ap typed_expression_of c.in-Local.is) (c.local_into.ensures _ _)

pub value_into-returns-in-Global : goal.value_into-returns-in-Global
value_into-returns-in-Global t c = rw (ap typed_expression_of c.in-Global.is) (c.global_into.ensures _ _)

pub value_into-returns-in-Element : goal.value_into-returns-in-Element
value_into-returns-in-Element t c = rw (element_is _ _ _ (ap typed_expression_of c.in-Element.is) c.deref.ensures) (c.element_into.ensures _)

pub value_into-returns-in-Unary : goal.value_into-returns-in-Unary
value_into-returns-in-Unary t c =
    rw (unary_is _ _ _ _ _ (ap typed_expression_of c.in-Unary.is) refl (ap typed_expression_of c.deref-in-Unary.ensures)) (c.unary_into.ensures _)

pub value_into-returns-in-Binary : goal.value_into-returns-in-Binary
value_into-returns-in-Binary t c =
    rw (binary_is _ _ _ _ _ (ap typed_expression_of c.in-Binary.is) refl c.deref-in-Binary.ensures) c.binary_into.ensures

pub value_into-returns-in-Conditional : goal.value_into-returns-in-Conditional
value_into-returns-in-Conditional t c =
    rw (conditional_is _ _ _ (ap typed_expression_of c.in-Conditional.is) c.deref-in-Conditional.ensures) (c.conditional_into.ensures _)

pub element_into-returns : goal.element_into-returns
element_into-returns t c = λ k.
    let load = c.load_at-load.ensures in
    element_emits _ _ _ k _ c.args.aim.to c.args.aim.free (spot c.args.aim.after) c.load_at-load.result _ load.place load.is load.room load.limit
    c.await_operand.ensures.ok c.await_operand.ensures.err

pub unary_into-returns-in-Same : goal.unary_into-returns-in-Same
unary_into-returns-in-Same t c = λ k.
    identity_emits _ _ _ k _ c.args.aim.to c.args.aim.free (spot c.args.aim.after) _ c.in-Same.ensures c.value_into.ensures

pub unary_into-returns-in_err-truth-in-Branches : goal.unary_into-returns-in_err-truth-in-Branches
unary_into-returns-in_err-truth-in-Branches t c = λ k.
    let truth = c.in_err-truth-in-Branches.ensures in
    rw (c.in-Branches.ensures.0, sym c.is_logical.ensures ∙ c.in-Branches.ensures.1) (stopped c.in_err-truth-in-Branches.field-0.0 (search rules) truth.grows
    (λ is. omega (arith, truth.limit is)))

pub unary_into-returns-in_ok-truth-in-Branches : goal.unary_into-returns-in_ok-truth-in-Branches
unary_into-returns-in_ok-truth-in-Branches t c = λ k.
    let truth = c.in_ok-truth-in-Branches.ensures in
    not_emits _ _ _ _ k _ _ c.args.aim.to c.args.aim.free c.in_ok-truth-in-Branches.truth _ (spot c.args.aim.after) _ c.in-Branches.ensures c.is_logical.ensures
    c.likely_first.ensures
    (record { grows = truth.grows; count = truth.count; insts = truth.insts; sound = truth.sound; likely = truth.is_likely; truth = truth.truth })
    c.condition.ensures

pub unary_into-returns-in-Combined : goal.unary_into-returns-in-Combined
unary_into-returns-in-Combined t c = λ k.
    let value = c.combination_at-value.ensures in
    prefix_emits _ _ _ _ k _ _ c.args.aim.to c.args.aim.free c.open_block.result (spot c.args.aim.after) c.combination_at-value.result _ c.in-Combined.ensures
    c.is_logical.ensures c.open_block.ensures value.place value.room value.does value.insts value.sound value.limit
    c.await_operand.ensures.ok c.await_operand.ensures.err

pub binary_into-returns-in-Logical : goal.binary_into-returns-in-Logical
binary_into-returns-in-Logical t c = rw c.in-Logical.ensures.form (c.told_into.ensures _)

pub binary_into-returns-in-Plain : goal.binary_into-returns-in-Plain
binary_into-returns-in-Plain t c =
    let values = c.operation_at-values.ensures in
    operator_emits _ _ _ _ _ _ _ c.args.aim.to c.args.aim.free c.open_block.result (spot c.args.aim.after) c.operation_at-values.result _
    c.in-Plain.ensures.form c.in-Plain.ensures.branches c.open_block.ensures values.first values.second values.is values.sound values.room values.limit
    c.await_both.ensures.ok c.await_both.ensures.err

pub told_into-returns-in_err-truth : goal.told_into-returns-in_err-truth
told_into-returns-in_err-truth t c = λ k.
    let truth = c.in_err-truth.ensures in
    stopped c.in_err-truth.field-0.0 (search rules) truth.grows (rw (logical_is c.args.both) (λ is. omega (arith, truth.limit is)))

pub told_into-returns : goal.told_into-returns
told_into-returns t c = λ k.
    let truth = c.in_ok-truth.ensures in
    told_emits c.args.both _ _ _ k _ _ c.in_ok-truth.truth c.args.aim.to c.args.aim.free (spot c.args.aim.after) _
    (record { grows = truth.grows; count = truth.count; insts = truth.insts; sound = truth.sound; likely = truth.is_likely; truth = truth.truth })
    (c.logical_branches.ensures k)

pub conditional_into-returns-in_err-join : goal.conditional_into-returns-in_err-join
conditional_into-returns-in_err-join t c = λ k.
    refused c.in_err-join.field-0.0 (search rules) c.in_err-join.ensures.left (λ is. omega (arith, c.in_err-join.ensures.limit is))

pub conditional_into-returns-in_err-yes : goal.conditional_into-returns-in_err-yes
conditional_into-returns-in_err-yes t c = λ k.
    let join = c.in_ok-join.ensures in
    part_refused (joint (spot c.args.aim.after)) c.in_err-yes.ensures (search rules) (omega arith) (omega arith) (omega arith) join.grows join.count

pub conditional_into-returns-in_err-no : goal.conditional_into-returns-in_err-no
conditional_into-returns-in_err-no t c = λ k.
    let join = c.in_ok-join.ensures in
    let yes = c.in_ok-yes.ensures in
    part_refused (joint (spot c.args.aim.after) + (value_blocks (typed_expression_of c.args.parts.now.1) 0 + 1)) c.in_err-no.ensures (search rules)
    (omega arith) (omega arith) (omega arith) (grows_then _ _ _ join.grows yes.grows) (omega (arith, join.count, yes.count))

pub conditional_into-returns : goal.conditional_into-returns
conditional_into-returns t c = λ k.
    let join = c.in_ok-join.ensures in
    conditional_emits _ _ _ _ _ k _ _ _ _ c.args.aim.to c.args.aim.free c.in_ok-join.join c.in_ok-yes.yes c.in_ok-no.no (spot c.args.aim.after) _
    c.likely_first.ensures (record { grows = join.grows; count = join.count; insts = join.insts; sound = join.sound; lands = join.lands })
    c.in_ok-yes.ensures c.in_ok-no.ensures c.condition.ensures

pub value_block-returns-in_err-code : goal.value_block-returns-in_err-code
value_block-returns-in_err-code t c =
    part_refused 0 c.in_err-code.ensures (search rules) (omega arith) (omega arith) (omega arith) (grows_same _) (omega arith)

pub value_block-returns : goal.value_block-returns
value_block-returns t c =
    let made = c.seal.ensures in
    block_emits _ _ _ (value_size (typed_expression_of c.args.e.now) c.args.free 0) _ _ _ c.in_ok-code.code _ c.in_ok-code.ensures
    (λ s named h. (h.0, (named, h.1))) made.grows made.count made.insts made.limit made.sound made.at

pub operand_into-returns-in-Constant : goal.operand_into-returns-in-Constant
operand_into-returns-in-Constant t c = operand_emits _ _ (typed_expression_of c.args.e.now) _ _ c.args.after _
    (rw (ap typed_expression_of c.in-Constant.is) (c.number_into.ensures _))

pub operand_into-returns : goal.operand_into-returns
operand_into-returns t c = operand_emits _ _ _ _ _ c.args.after _ c.value_into.ensures

pub await_both-returns-in_err-middle : goal.await_both-returns-in_err-middle
await_both-returns-in_err-middle t c = record {
  ok = rw c.in_ok-values.was (part_refused 0 c.in_err-middle.ensures (search rules) (omega arith) (omega arith) (omega arith) (grows_same _) (omega arith));
  err = rw c.in_ok-values.was tt;
}

pub await_both-returns : goal.await_both-returns
await_both-returns t c = record {
  ok = rw c.in_ok-values.was (both_emits _ _ _ _ _ _ c.in_ok-values.values c.in_ok-middle.middle _ c.in_ok-middle.ensures c.operand_into-2.ensures);
  err = rw c.in_ok-values.was tt;
}

pub test-returns : goal.test-returns
test-returns t c =
    let value = c.test_at.ensures in
    test_emits _ _ _ c.args.targets _ c.test_at.result _ value.place value.room value.does value.insts value.sound value.limit
    c.await_operand.ensures.ok c.await_operand.ensures.err

pub condition-returns-in-Constant : goal.condition-returns-in-Constant
condition-returns-in-Constant t c =
    constant_emits _ _ _ _ c.args.targets _ c.branch_by.result (ap typed_expression_of c.in-Constant.is) c.constant.ensures c.branch_by.ensures

pub condition-returns-in-Not : goal.condition-returns-in-Not
condition-returns-in-Not t c =
    not_branches _ _ _ _ _ _ _ c.args.targets _ _ _ (ap typed_expression_of c.in-Unary.is) c.in-Not.is (ap typed_expression_of c.deref-in-Not.ensures)
    c.of_contrary.ensures c.condition-in-Not.ensures

pub condition-returns-in-Logical : goal.condition-returns-in-Logical
condition-returns-in-Logical t c =
    rw (binary_is _ _ _ _ _ (ap typed_expression_of c.in-Binary.is) c.in-Logical.ensures.form c.deref-in-Logical.ensures) (c.logical_branches.ensures _)

pub condition-returns-else-targets : goal.condition-returns-else-targets
condition-returns-else-targets t c = rw (binary_is _ _ _ _ _ (ap typed_expression_of c.in-Binary.is) refl c.deref-in-Plain.ensures)
    (c.contrary_test.ensures _ _ c.in-Some.ensures.computes c.in-Plain.ensures.branches (sym c.in-Some.ensures.is) c.if-targets.false)

pub condition-returns-in-Conditional : goal.condition-returns-in-Conditional
condition-returns-in-Conditional t c =
    rw (conditional_is _ _ _ (ap typed_expression_of c.in-Conditional.is) c.deref-in-Conditional.ensures) (c.sides.ensures _)

pub contrary_test-returns : goal.contrary_test-returns
contrary_test-returns t c = λ o k computes plain has unlikely.
    let values = c.contrary_at-values.ensures in
    contrary_emits _ _ o k _ _ _ c.args.targets _ c.contrary_at-values.result _ computes plain has unlikely values.first values.second values.is
    values.sound values.room values.limit c.await_both.ensures.ok c.await_both.ensures.err

pub logical_branches-returns-in_err-second : goal.logical_branches-returns-in_err-second
logical_branches-returns-in_err-second t c = λ k.
    let plain = logical_is c.args.both in
    part_refused 0 c.in_err-second.ensures (search rules) (rw plain (omega arith)) (rw plain (omega arith)) (omega arith) (grows_same _) (omega arith)

pub logical_branches-returns : goal.logical_branches-returns
logical_branches-returns t c = λ k.
    logical_branches c.args.both _ _ _ k _ _ c.args.targets _ _ c.in_ok-second.second _ c.of_left.ensures c.in_ok-second.ensures c.condition.ensures

pub sides-returns-in_err-yes : goal.sides-returns-in_err-yes
sides-returns-in_err-yes t c = λ k.
    part_refused 0 c.in_err-yes.ensures (search rules) (omega arith) (omega arith) (omega arith) (grows_same _) (omega arith)

pub sides-returns-in_err-no : goal.sides-returns-in_err-no
sides-returns-in_err-no t c = λ k.
    let yes = c.in_ok-yes.ensures in
    part_refused (condition_blocks (typed_expression_of c.args.parts.now.1) + 1) c.in_err-no.ensures (search rules) (omega arith) (omega arith)
    (omega arith) yes.grows yes.count

pub sides-returns : goal.sides-returns
sides-returns t c = λ k.
    conditional_branches _ _ _ _ k _ (typed_expression_of c.args.parts.now.1) (typed_expression_of c.args.parts.now.2) c.args.targets _ _ c.in_ok-yes.yes
    c.in_ok-no.no _ c.likely_first.ensures c.in_ok-yes.ensures c.in_ok-no.ensures c.condition.ensures

pub branch_block-returns-in_err-code : goal.branch_block-returns-in_err-code
branch_block-returns-in_err-code t c =
    part_refused 0 c.in_err-code.ensures (search rules) (omega arith) (omega arith) (omega arith) (grows_same _) (omega arith)

pub branch_block-returns : goal.branch_block-returns
branch_block-returns t c =
    let made = c.seal.ensures in
    block_emits _ _ _ (condition_size (typed_expression_of c.args.e.now) c.args.targets.likely c.args.free) _ _ _ c.in_ok-code.code _ c.in_ok-code.ensures
    (λ s named h. (named, h)) made.grows made.count made.insts made.limit made.sound made.at
