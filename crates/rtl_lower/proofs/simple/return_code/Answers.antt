use Rattle.std.proofs.Common.{ap}
use Rattle.c_typed.specs.Shape.{maybe_typed_expression_of}
use Rattle.rtl_lower.proofs.Emitting.{value_returned}
use Rattle.rtl_lower.proofs.simple.return_code.Goals as goal

pub returns-in_ok-value-in-Some : goal.returns-in_ok-value-in-Some
returns-in_ok-value-in-Some c = λ after.
    let value = c.in_ok-value-in-Some.ensures in
    value_returned _ _ _ _ _ _ _ c.exit_block-end.result after _ (ap maybe_typed_expression_of c.in-Some.is) value.place value.room c.exit_block-end.ensures
    c.operand_into.ensures
