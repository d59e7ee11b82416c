-- What becomes less from call to call of the functions that emit expressions and conditions.
use Rattle.std.proofs.Common.{ℕ, ◌+◌}
use Rattle.c_typed.specs.Trees.{TypedExpression, element, unary, binary, conditional}

-- nine for each operator, so that the calls for one expression have numbers of their own
abbrev pub weight : TypedExpression → ℕ
weight (element x k i) = weight i + 9
weight (unary o k e) = weight e + 9
weight (binary o k l r) = weight l + weight r + 9
weight (conditional k c a b) = weight c + weight a + weight b + 9
weight _ = 0
