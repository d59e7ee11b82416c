use Rattle.std.proofs.Common.{ap}
use Rattle.c_typed.specs.Shape.{typed_expressions_of}
use Rattle.rtl_emit.proofs.Emitting.{operands_emits}
use Rattle.rtl_emit.proofs.expression.+operands_into.Goals as goal

pub returns : goal.returns
returns t c =
    operands_emits _ _ _ _ _ _ _ _ _ _ c.args.after c.in_ok-middle.middle _ (ap typed_expressions_of c.in-Some.ensures.cases.0)
    c.in-Some-split_first.ensures.cases.0 c.requires.places c.in_ok-middle.ensures c.operand_into.ensures
