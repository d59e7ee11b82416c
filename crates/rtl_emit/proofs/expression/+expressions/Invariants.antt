use Rattle.std.proofs.Common.{◌+◌}
use Rattle.c_typed.specs.Shape.{typed_expression_of}
use Rattle.rtl_emit.proofs.Weights.{weight}
use Rattle.rtl_emit.proofs.expression.+expressions.Given as goal

abbrev pub decreases-value_into : goal.decreases-value_into
decreases-value_into l = weight (typed_expression_of l.e.now)

abbrev pub decreases-operand_into : goal.decreases-operand_into
decreases-operand_into l = weight (typed_expression_of l.e.now) + 1

abbrev pub decreases-value_block : goal.decreases-value_block
decreases-value_block l = weight (typed_expression_of l.e.now) + 1

abbrev pub decreases-await_operand : goal.decreases-await_operand
decreases-await_operand l = weight (typed_expression_of l.e.now) + 2

abbrev pub decreases-test : goal.decreases-test
decreases-test l = weight (typed_expression_of l.e.now) + 3

abbrev pub decreases-condition : goal.decreases-condition
decreases-condition l = weight (typed_expression_of l.e.now) + 4

abbrev pub decreases-branch_block : goal.decreases-branch_block
decreases-branch_block l = weight (typed_expression_of l.e.now) + 5

abbrev pub decreases-element_into : goal.decreases-element_into
decreases-element_into l = weight (typed_expression_of l.index.now) + 6

abbrev pub decreases-unary_into : goal.decreases-unary_into
decreases-unary_into l = weight (typed_expression_of l.part.now) + 6

abbrev pub decreases-await_both : goal.decreases-await_both
decreases-await_both l = weight (typed_expression_of l.left.now) + weight (typed_expression_of l.right.now) + 6

abbrev pub decreases-logical_branches : goal.decreases-logical_branches
decreases-logical_branches l = weight (typed_expression_of l.operands.now.0) + weight (typed_expression_of l.operands.now.1) + 6

abbrev pub decreases-contrary_test : goal.decreases-contrary_test
decreases-contrary_test l = weight (typed_expression_of l.operands.now.0) + weight (typed_expression_of l.operands.now.1) + 7

abbrev pub decreases-told_into : goal.decreases-told_into
decreases-told_into l = weight (typed_expression_of l.operands.now.0) + weight (typed_expression_of l.operands.now.1) + 7

abbrev pub decreases-binary_into : goal.decreases-binary_into
decreases-binary_into l = weight (typed_expression_of l.operands.now.0) + weight (typed_expression_of l.operands.now.1) + 8

abbrev pub decreases-sides : goal.decreases-sides
decreases-sides l =
    weight (typed_expression_of l.parts.now.0) + weight (typed_expression_of l.parts.now.1) + weight (typed_expression_of l.parts.now.2) + 6

abbrev pub decreases-conditional_into : goal.decreases-conditional_into
decreases-conditional_into l =
    weight (typed_expression_of l.parts.now.0) + weight (typed_expression_of l.parts.now.1) + weight (typed_expression_of l.parts.now.2) + 6
