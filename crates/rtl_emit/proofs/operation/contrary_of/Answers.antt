use Rattle.std.proofs.Common.{ap, ◌∙◌}
use Rattle.c_typed.specs.Values.{sign_of}
use Rattle.rtl_emit.proofs.Operations.{straight_op, turned_op, contrary-along}
use Rattle.rtl_emit.proofs.Operations.{not_less, not_greater, not_less_or_equal, not_greater_or_equal, not_equal, not_different}
use Rattle.rtl_emit.proofs.operation.contrary_of.Goals as goal

pub returns-in-Less-clause-computes : goal.returns-in-Less-clause-computes
returns-in-Less-clause-computes c = contrary-along c.in-Less.is (c.turned_op.ensures ∙ ap turned_op c.by_type.ensures) (not_less (sign_of c.args.integer_type))

pub returns-in-Greater-clause-computes : goal.returns-in-Greater-clause-computes
returns-in-Greater-clause-computes c = contrary-along c.in-Greater.is (c.straight_op.ensures ∙ ap straight_op c.by_type-in-Greater.ensures)
    (not_greater (sign_of c.args.integer_type))

pub returns-in-LessOrEqual-clause-computes : goal.returns-in-LessOrEqual-clause-computes
returns-in-LessOrEqual-clause-computes c = contrary-along c.in-LessOrEqual.is
    (c.turned_op-in-LessOrEqual.ensures ∙ ap turned_op c.by_type-in-LessOrEqual.ensures) (not_less_or_equal (sign_of c.args.integer_type))

pub returns-in-GreaterOrEqual-clause-computes : goal.returns-in-GreaterOrEqual-clause-computes
returns-in-GreaterOrEqual-clause-computes c = contrary-along c.in-GreaterOrEqual.is
    (c.straight_op-in-GreaterOrEqual.ensures ∙ ap straight_op c.by_type-in-GreaterOrEqual.ensures) (not_greater_or_equal (sign_of c.args.integer_type))

pub returns-in-Equal-clause-computes : goal.returns-in-Equal-clause-computes
returns-in-Equal-clause-computes c = contrary-along c.in-Equal.is c.straight_op-in-Equal.ensures (not_equal (sign_of c.args.integer_type))

pub returns-in-NotEqual-clause-computes : goal.returns-in-NotEqual-clause-computes
returns-in-NotEqual-clause-computes c = contrary-along c.in-NotEqual.is c.straight_op-in-NotEqual.ensures (not_different (sign_of c.args.integer_type))
