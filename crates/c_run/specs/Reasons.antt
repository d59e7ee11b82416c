-- Why a run is wrong.
use Rattle.std.specs.Prelude.{◌≡◌, ◌≤◌, None, ⊤}
use Rattle.c_typed.specs.Values.{sign_of, unary_of, binary_of}
use Rattle.c_run.specs.declared.reasons.Reason.{Reason}
use Rattle.c_run.specs.declared.reasons.Reason.TheVariants.{Unset, Outside, Prefix, Operation, TooDeep, NoResult}

-- what is told of values is so: the index is outside, the operator has no value at these words
abbrev pub IsReason : Reason → Type 0
IsReason (Unset local integer_type) = ⊤
IsReason (Outside array index integer_type length) = length ≤ index
IsReason (Prefix operator integer_type operand) = unary_of operator (sign_of integer_type) operand ≡ None
IsReason (Operation operator integer_type right_type left right) = binary_of operator (sign_of integer_type) left right ≡ None
IsReason TooDeep = ⊤
IsReason NoResult = ⊤
