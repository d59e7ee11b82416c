-- Trees whose names are numbers, and the types of their values (C99 6.3.1.8, 6.5.3 to 6.5.15).
use Rattle.std.specs.Prelude.{ℕ, List, Option}
use Rattle.c_tokens.specs.declared.token.IntegerType.{IntegerType}
use Rattle.c_tokens.specs.declared.token.IntegerType.TheVariants.{SignedInt, UnsignedInt}
use Rattle.c_tokens.specs.declared.token.Literal.{Literal}
use Rattle.c_tree.specs.declared.tree.UnaryOp.{UnaryOp}
use Rattle.c_tree.specs.declared.tree.UnaryOp.TheVariants.{Not}
use Rattle.c_tree.specs.declared.tree.BinaryOp.{BinaryOp}
use Rattle.c_tree.specs.declared.tree.BinaryOp.TheVariants.{ShiftLeft, ShiftRight, Less, Greater, LessOrEqual, GreaterOrEqual, Equal}
use Rattle.c_tree.specs.declared.tree.BinaryOp.TheVariants.{NotEqual, LogicalAnd}
use Rattle.c_tree.specs.declared.tree.BinaryOp.TheVariants.{LogicalOr}
use Rattle.c_typed.specs.declared.tree.Destination.{Destination}
use Rattle.c_typed.specs.declared.tree.Global.{Global}

-- an expression whose names are numbers; an operator has the type that it computes in
pub data TypedExpression : Type 0 where
  constant : Literal → TypedExpression
  local : ℕ → IntegerType → TypedExpression
  global : ℕ → IntegerType → TypedExpression
  element : ℕ → IntegerType → TypedExpression → TypedExpression
  unary : UnaryOp → IntegerType → TypedExpression → TypedExpression
  binary : BinaryOp → IntegerType → TypedExpression → TypedExpression → TypedExpression
  conditional : IntegerType → TypedExpression → TypedExpression → TypedExpression → TypedExpression

mutual
  pub data TypedStatement : Type 0 where
    empty : TypedStatement
    block : TypedStatements → TypedStatement
    -- a declaration without a first value
    unset : ℕ → TypedStatement
    assign : Destination → TypedExpression → TypedStatement
    -- an array, an index and a value
    store : ℕ → TypedExpression → TypedExpression → TypedStatement
    -- where the result goes, if anywhere, the function and the arguments
    call : Option Destination → ℕ → List TypedExpression → TypedStatement
    output : TypedExpression → TypedStatement
    if_else : TypedExpression → TypedStatement → TypedStatement → TypedStatement
    -- a test, the last part of a turn and the body
    loop : TypedExpression → TypedStatement → TypedStatement → TypedStatement
    break_loop : TypedStatement
    continue_loop : TypedStatement
    return_with : Option TypedExpression → TypedStatement

  pub data TypedStatements : Type 0 where
    no_statements : TypedStatements
    more_statements : TypedStatement → TypedStatements → TypedStatements

-- the parameters are the first of the locals
pub record TypedFunction : Type 0 where
  pub result : Option IntegerType
  pub parameters : ℕ
  pub locals : ℕ
  pub body : TypedStatements

pub record TypedProgram : Type 0 where
  pub functions : List TypedFunction
  pub globals : List Global
  pub main : ℕ

-- the constant 1
abbrev pub one : Literal
one = record { value = 1; integer_type = SignedInt }

abbrev pub common_type : IntegerType → IntegerType → IntegerType
common_type SignedInt SignedInt = SignedInt
common_type _ _ = UnsignedInt

abbrev pub prefix_type : UnaryOp → IntegerType → IntegerType
prefix_type Not k = SignedInt
prefix_type _ k = k

-- the type that an operator computes in, by the types of its operands
abbrev pub operation_type : BinaryOp → IntegerType → IntegerType → IntegerType
operation_type ShiftLeft l r = l
operation_type ShiftRight l r = l
operation_type LogicalAnd l r = SignedInt
operation_type LogicalOr l r = SignedInt
operation_type _ l r = common_type l r

-- the type of an operator's value, by that which it computes in
abbrev pub value_type : BinaryOp → IntegerType → IntegerType
value_type Less k = SignedInt
value_type Greater k = SignedInt
value_type LessOrEqual k = SignedInt
value_type GreaterOrEqual k = SignedInt
value_type Equal k = SignedInt
value_type NotEqual k = SignedInt
value_type LogicalAnd k = SignedInt
value_type LogicalOr k = SignedInt
value_type _ k = k

abbrev pub type_of : TypedExpression → IntegerType
type_of (constant c) = c.integer_type
type_of (local n k) = k
type_of (global n k) = k
type_of (element n k e) = k
type_of (unary o k e) = k
type_of (binary o k l r) = value_type o k
type_of (conditional k c a b) = k
