use Rattle.std.proofs.Common.{◌+◌, ◌*◌, length}
use Rattle.c_tree.specs.Shape.{expression_of}
use Rattle.c_front.proofs.Paths.{Climbs}
use Rattle.c_front.proofs.expression.+expressions.Given as goal

abbrev pub decreases-choice : goal.decreases-choice
decreases-choice l = 8 * length l.tokens.now + 5

abbrev pub decreases-closed_expression : goal.decreases-closed_expression
decreases-closed_expression l = 8 * length l.tokens.now + 4

abbrev pub decreases-expression : goal.decreases-expression
decreases-expression l = 8 * length l.tokens.now + 3

abbrev pub decreases-operands : goal.decreases-operands
decreases-operands l = 8 * length l.tokens.now + 2

abbrev pub decreases-operand : goal.decreases-operand
decreases-operand l = 8 * length l.tokens.now + 1

abbrev pub invariant-operands-climbing : goal.invariant-operands-climbing
invariant-operands-climbing l = Climbs l.level l.fn.tokens l.rest (expression_of l.left)

abbrev pub decreases-operands-climbing : goal.decreases-operands-climbing
decreases-operands-climbing l = length l.rest
