-- Typed trees that are put together of what the typing of their parts answered.
use Rattle.std.specs.Prelude.{◌≡◌, ◌⊎◌, ◌++◌, ℕ, [], ◌∷◌, Result, Ok, Err}
use Rattle.std.specs.declared.alloc.Global.{Global}
use Rattle.std.specs.declared.vec.Vec.{Vec}
use Rattle.c_tokens.specs.declared.token.IntegerType.{IntegerType}
use Rattle.c_tree.specs.declared.tree.UnaryOp.{UnaryOp}
use Rattle.c_tree.specs.declared.tree.BinaryOp.{BinaryOp}
use Rattle.c_typed.specs.declared.tree.TypedExpression.{TypedExpression}
use Rattle.c_typed.specs.declared.tree.TypedStatement.{TypedStatement}
use Rattle.c_typed.specs.Shape.{typed_expression_of, statement_of}
use Rattle.c_typed.specs.Trees.{element, unary, binary, conditional, type_of, common_type, prefix_type, operation_type, if_else, loop}
use Rattle.c_typed.specs.Trees.{block, more_statements, no_statements, store}
use Rattle.c_statements.specs.declared.fault.TypeStop.{TypeStop}
use Rattle.c_statements.specs.declared.fault.TypeStop.TheVariants.{NoMemory}

-- what is made of the answer of parts
abbrev pub MadeOf : {A D : Type 0} → Result A TypeStop → (A → D → Type 0) → D → Type 0
MadeOf {A} parts IsMade d = (x : A) × (parts ≡ Ok x) × IsMade x d

-- why nothing is made of them: lack of memory, or what stops them
abbrev pub Stops : {A : Type 0} → Result A TypeStop → TypeStop → Type 0
Stops parts s = (s ≡ NoMemory) ⊎ (parts ≡ Err s)

abbrev pub IsSecond : {A B : Type 0} → A × B → B → Type 0
IsSecond (x, y) z = z ≡ y

-- a list of parts with one more at its end
abbrev pub HasLast : {T : Type 0} → Vec T Global × T → Vec T Global → Type 0
HasLast (xs, x) all = all.items ≡ xs.items ++ x ∷ []

abbrev pub IsElement : (ℕ × IntegerType) × TypedExpression → TypedExpression → Type 0
IsElement ((n, k), i) t = typed_expression_of t ≡ element n k (typed_expression_of i)

abbrev pub IsUnary : UnaryOp → TypedExpression → TypedExpression → Type 0
IsUnary o x t = typed_expression_of t ≡ unary o (prefix_type o (type_of (typed_expression_of x))) (typed_expression_of x)

abbrev pub IsBinary : BinaryOp → TypedExpression × TypedExpression → TypedExpression → Type 0
IsBinary o (l, r) t = typed_expression_of t ≡ binary o (operation_type o (type_of (typed_expression_of l)) (type_of (typed_expression_of r)))
    (typed_expression_of l) (typed_expression_of r)

abbrev pub IsConditional : TypedExpression × (TypedExpression × TypedExpression) → TypedExpression → Type 0
IsConditional (c, (y, n)) t =
    typed_expression_of t ≡ conditional (common_type (type_of (typed_expression_of y)) (type_of (typed_expression_of n)))
    (typed_expression_of c) (typed_expression_of y) (typed_expression_of n)

abbrev pub IsStore : (ℕ × IntegerType) × (TypedExpression × TypedExpression) → TypedStatement → Type 0
IsStore ((n, k), (i, v)) t = statement_of t ≡ store n (typed_expression_of i) (typed_expression_of v)

abbrev pub IsIf : TypedExpression × (TypedStatement × TypedStatement) → TypedStatement → Type 0
IsIf (c, (f, s)) t = statement_of t ≡ if_else (typed_expression_of c) (statement_of f) (statement_of s)

abbrev pub IsLoop : TypedExpression × (TypedStatement × TypedStatement) → TypedStatement → Type 0
IsLoop (c, (l, b)) t = statement_of t ≡ loop (typed_expression_of c) (statement_of l) (statement_of b)

abbrev pub IsSequence : TypedStatement × TypedStatement → TypedStatement → Type 0
IsSequence (f, s) t = statement_of t ≡ block (more_statements (statement_of f) (more_statements (statement_of s) no_statements))
