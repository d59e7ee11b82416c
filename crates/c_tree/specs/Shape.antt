-- The tree that a value of the program stands for.
use Rattle.std.specs.Prelude.{List, [], ◌∷◌, Option, Some, None}
use Rattle.c_tree.specs.declared.tree.Expression.{Expression, Constant, Name, Index', Unary', Binary', Conditional'}
use Rattle.c_tree.specs.declared.tree.Statement.{Statement, Empty, Block', If', IfElse', While', For', Break, Continue, Return, Simply}
use Rattle.c_tree.specs.declared.tree.Statement.{Row_of-Item}
use Rattle.c_tree.specs.declared.tree.Statement.{end_of-Item, more_of-Item}
use Rattle.c_tree.specs.declared.tree.Item.{Item, Declare, Statement as InnerStatement}
use Rattle.c_tree.specs.declared.tree.Call.{Call}
use Rattle.c_tree.specs.declared.tree.Value.{Value}
use Rattle.c_tree.specs.declared.tree.Value.TheVariants.{Plain, Called}
use Rattle.c_tree.specs.declared.tree.Simple.{Simple}
use Rattle.c_tree.specs.declared.tree.Simple.TheVariants.{Assign, AssignAt, CallStatement}
use Rattle.c_tree.specs.declared.tree.Declaration.{Declaration}
use Rattle.c_tree.specs.declared.tree.Declaration.TheVariants.{Variable, Array, Function}
use Rattle.c_tree.specs.Tree as Tree
use Rattle.c_tree.specs.Tree.{Items, constant, name, index, unary, binary, conditional, call, plain, called, assign, assign_at}
use Rattle.c_tree.specs.Tree.{call_statement, empty, block}
use Rattle.c_tree.specs.Tree.{if_then, if_then_else, while_loop, for_loop, break_at, continue_at, return_at, simply, declare, statement}
use Rattle.c_tree.specs.Tree.{no_items, more_items}
use Rattle.c_tree.specs.Tree.{variable, array, function}

abbrev pub expression_of : Expression → Tree.Expression
expression_of (Constant k) = constant k
expression_of (Name x) = name x
expression_of (Index' p x e) = index x (expression_of e)
expression_of (Unary' o p e) = unary o (expression_of e)
expression_of (Binary' o p l r) = binary o (expression_of l) (expression_of r)
expression_of (Conditional' p c a b) = conditional (expression_of c) (expression_of a) (expression_of b)

abbrev pub expressions_of : List Expression → List Tree.Expression
expressions_of [] = []
expressions_of (e ∷ rest) = expression_of e ∷ expressions_of rest

abbrev pub maybe_expression_of : Option Expression → Option Tree.Expression
maybe_expression_of None = None
maybe_expression_of (Some e) = Some (expression_of e)

abbrev pub call_of : Call → Tree.Call
call_of c = call c.name (expressions_of c.arguments.items)

abbrev pub value_tree : Value → Tree.Value
value_tree (Plain e) = plain (expression_of e)
value_tree (Called c) = called (call_of c)

abbrev pub maybe_value_tree : Option Value → Option Tree.Value
maybe_value_tree None = None
maybe_value_tree (Some v) = Some (value_tree v)

abbrev pub simple_of : Simple → Tree.Simple
simple_of (Assign x v) = assign x (value_tree v)
simple_of (AssignAt x e v) = assign_at x (expression_of e) (expression_of v)
simple_of (CallStatement c) = call_statement (call_of c)

abbrev pub maybe_simple_of : Option Simple → Option Tree.Simple
maybe_simple_of None = None
maybe_simple_of (Some s) = Some (simple_of s)

abbrev mutual
  pub statement_of : Statement → Tree.Statement
  statement_of Empty = empty
  statement_of (Block' shape all) = block (row_of all)
  statement_of (If' c p s) = if_then (expression_of c) (statement_of s)
  statement_of (IfElse' c p s q e) = if_then_else (expression_of c) (statement_of s) (statement_of e)
  statement_of (While' c p s) = while_loop (expression_of c) (statement_of s)
  statement_of (For' h p s) = for_loop (maybe_simple_of h.value.first) (maybe_expression_of h.value.test) (maybe_simple_of h.value.last)
      (statement_of s)
  statement_of (Break at) = break_at at
  statement_of (Continue at) = continue_at at
  statement_of (Return at e) = return_at at (maybe_expression_of e)
  statement_of (Simply s) = simply (simple_of s)

  pub item_of : Item → Tree.Item
  item_of (Declare k x v) = declare k x (maybe_value_tree v)
  item_of (InnerStatement s) = statement (statement_of s)

  pub row_of : {n : _} → Row_of-Item n → Items
  row_of end_of-Item = no_items
  row_of (more_of-Item i rest) = more_items (item_of i) (row_of rest)

abbrev pub items_of : List Item → Items
items_of [] = no_items
items_of (i ∷ rest) = more_items (item_of i) (items_of rest)

abbrev pub declaration_of : Declaration → Tree.Declaration
declaration_of (Variable k x i) = variable k x i
declaration_of (Array w k x n) = array w k x n
declaration_of (Function f) = function f.result f.name f.parameters.items (items_of f.body.items)

abbrev pub declarations_of : List Declaration → List Tree.Declaration
declarations_of [] = []
declarations_of (d ∷ rest) = declaration_of d ∷ declarations_of rest
