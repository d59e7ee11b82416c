use Rattle.std.proofs.Common.{rules, sym}
use Rattle.c_statements.specs.Made.{IsElement, IsUnary, IsBinary, IsConditional}
use Rattle.c_statements.specs.Types.{constant_typed, element_typed, unary_typed, binary_typed, conditional_typed}
use Rattle.c_statements.proofs.Joins.{answers-both, answers-made}
use Rattle.c_statements.proofs.expression.+expressions.Goals as goal

pub operand-returns-in-Constant : goal.operand-returns-in-Constant
operand-returns-in-Constant t c = rw c.in-Constant.is record { ok = constant_typed; none = search rules; err = tt }

pub operand-returns-in-Name : goal.operand-returns-in-Name
operand-returns-in-Name t c = rw c.in-Name.is c.variable.ensures

pub expression-returns-in-Constant : goal.expression-returns-in-Constant
expression-returns-in-Constant t c = rw c.in-Constant.is record { ok = constant_typed; none = search rules; err = tt }

pub expression-returns-in-Name : goal.expression-returns-in-Name
expression-returns-in-Name t c = rw c.in-Name.is c.variable.ensures

pub expression-returns-in-Index : goal.expression-returns-in-Index
expression-returns-in-Index t c = rw (c.in-Index.is, sym c.deref.ensures)
    (answers-made IsElement (answers-both c.array.ensures c.operand-index.ensures) c.element.ensures.ok c.element.ensures.err
    (λ x d p e. rw e (element_typed p.0 p.1)))

pub expression-returns-in-Unary : goal.expression-returns-in-Unary
expression-returns-in-Unary t c = rw (c.in-Unary.is, sym c.deref-in-Unary.ensures)
    (answers-made (IsUnary c.in-Unary.operator) c.operand.ensures c.unary.ensures.ok c.unary.ensures.err (λ x d p e. rw e (unary_typed p)))

pub expression-returns-in-Binary : goal.expression-returns-in-Binary
expression-returns-in-Binary t c = rw (c.in-Binary.is, sym c.deref-in-Binary.ensures)
    (answers-made (IsBinary c.in-Binary.operator) (answers-both c.operand-left.ensures c.operand-right.ensures) c.binary.ensures.ok c.binary.ensures.err
    (λ x d p e. rw e (binary_typed p.0 p.1)))

pub expression-returns-in-Conditional : goal.expression-returns-in-Conditional
expression-returns-in-Conditional t c = rw (c.in-Conditional.is, sym c.deref-in-Conditional.ensures)
    (answers-made IsConditional (answers-both c.operand-test.ensures (answers-both c.operand-yes.ensures c.operand-no.ensures)) c.conditional.ensures.ok
    c.conditional.ensures.err (λ x d p e. rw e (conditional_typed p.0 p.1.0 p.1.1)))
