-- The typed tree that a value of the program stands for.
use Rattle.std.specs.Prelude.{List, [], ◌∷◌, Option, Some, None}
use Rattle.c_typed.specs.declared.tree.TypedExpression.{TypedExpression, Constant, Local, Global, Element', Unary', Binary', Conditional'}
use Rattle.c_typed.specs.declared.tree.TypedStatement.{TypedStatement, Empty, Block', Unset, Assign, Store, Call, Output, If', Loop', Break}
use Rattle.c_typed.specs.declared.tree.TypedStatement.{Continue, Return}
use Rattle.c_typed.specs.declared.tree.TypedStatement.{Row_of-TypedStatement, end_of-TypedStatement, more_of-TypedStatement}
use Rattle.c_typed.specs.declared.tree.Function.{Function}
use Rattle.c_typed.specs.Trees as Trees
use Rattle.c_typed.specs.Trees.{constant, local, global, element, unary, binary, conditional, TypedStatements, empty, block, unset, assign}
use Rattle.c_typed.specs.Trees.{store, call, output}
use Rattle.c_typed.specs.Trees.{if_else, loop, break_loop, continue_loop, return_with, no_statements, more_statements, TypedFunction}

abbrev pub typed_expression_of : TypedExpression → Trees.TypedExpression
typed_expression_of (Constant c) = constant c
typed_expression_of (Local k n) = local n k
typed_expression_of (Global k n) = global n k
typed_expression_of (Element' k p n e) = element n k (typed_expression_of e)
typed_expression_of (Unary' o k p e) = unary o k (typed_expression_of e)
typed_expression_of (Binary' o k p l r) = binary o k (typed_expression_of l) (typed_expression_of r)
typed_expression_of (Conditional' k p c a b) = conditional k (typed_expression_of c) (typed_expression_of a) (typed_expression_of b)

abbrev pub typed_expressions_of : List TypedExpression → List Trees.TypedExpression
typed_expressions_of [] = []
typed_expressions_of (e ∷ rest) = typed_expression_of e ∷ typed_expressions_of rest

abbrev pub maybe_typed_expression_of : Option TypedExpression → Option Trees.TypedExpression
maybe_typed_expression_of None = None
maybe_typed_expression_of (Some e) = Some (typed_expression_of e)

abbrev mutual
  pub statement_of : TypedStatement → Trees.TypedStatement
  statement_of Empty = empty
  statement_of (Block' shape all) = block (row_of all)
  statement_of (Unset n) = unset n
  statement_of (Assign x e) = assign x (typed_expression_of e)
  statement_of (Store a i e) = store a (typed_expression_of i) (typed_expression_of e)
  statement_of (Call to f all) = call to f (typed_expressions_of all.items)
  statement_of (Output e) = output (typed_expression_of e)
  statement_of (If' c p s q e) = if_else (typed_expression_of c) (statement_of s) (statement_of e)
  statement_of (Loop' c p l q b) = loop (typed_expression_of c) (statement_of l) (statement_of b)
  statement_of Break = break_loop
  statement_of Continue = continue_loop
  statement_of (Return e) = return_with (maybe_typed_expression_of e)

  pub row_of : {n : _} → Row_of-TypedStatement n → TypedStatements
  row_of end_of-TypedStatement = no_statements
  row_of (more_of-TypedStatement s rest) = more_statements (statement_of s) (row_of rest)

abbrev pub statements_of : List TypedStatement → TypedStatements
statements_of [] = no_statements
statements_of (s ∷ rest) = more_statements (statement_of s) (statements_of rest)

abbrev pub function_of : Function → TypedFunction
function_of f = record { result = f.result; parameters = f.parameters; locals = f.locals; body = statements_of f.body.items }

abbrev pub functions_of : List Function → List TypedFunction
functions_of [] = []
functions_of (f ∷ rest) = function_of f ∷ functions_of rest
