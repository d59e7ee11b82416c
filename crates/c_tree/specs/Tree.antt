-- The trees that texts spell, without the places where a program keeps them.
use Rattle.std.specs.Prelude.{ℕ, List, Option}
use Rattle.c_tokens.specs.declared.token.Identifier.{Identifier}
use Rattle.c_tokens.specs.declared.token.IntegerType.{IntegerType}
use Rattle.c_tokens.specs.declared.token.Literal.{Literal}
use Rattle.words.specs.declared.width.Width.{Width}
use Rattle.c_tree.specs.declared.tree.UnaryOp.{UnaryOp}
use Rattle.c_tree.specs.declared.tree.BinaryOp.{BinaryOp}
use Rattle.c_tree.specs.declared.tree.Initial.{Initial}
use Rattle.c_tree.specs.declared.tree.Parameter.{Parameter}

pub data Expression : Type 0 where
  constant : Literal → Expression
  name : Identifier → Expression
  index : Identifier → Expression → Expression
  unary : UnaryOp → Expression → Expression
  binary : BinaryOp → Expression → Expression → Expression
  conditional : Expression → Expression → Expression → Expression

-- a name with arguments
pub data Call : Type 0 where
  call : Identifier → List Expression → Call

pub data Value : Type 0 where
  plain : Expression → Value
  called : Call → Value

pub data Simple : Type 0 where
  assign : Identifier → Value → Simple
  assign_at : Identifier → Expression → Expression → Simple
  call_statement : Call → Simple

mutual
  pub data Statement : Type 0 where
    empty : Statement
    block : Items → Statement
    if_then : Expression → Statement → Statement
    if_then_else : Expression → Statement → Statement → Statement
    while_loop : Expression → Statement → Statement
    for_loop : Option Simple → Option Expression → Option Simple → Statement → Statement
    break_at : ℕ → Statement
    continue_at : ℕ → Statement
    return_at : ℕ → Option Expression → Statement
    simply : Simple → Statement

  pub data Item : Type 0 where
    declare : IntegerType → Identifier → Option Value → Item
    statement : Statement → Item

  pub data Items : Type 0 where
    no_items : Items
    more_items : Item → Items → Items

-- a declaration at file scope. An array has the width of its elements, and the type that one of them is read as, which for bytes is `int`
-- (C99 6.3.1.1). A function without a type has no result
pub data Declaration : Type 0 where
  variable : IntegerType → Identifier → Option Initial → Declaration
  array : Width → IntegerType → Identifier → Literal → Declaration
  function : Option IntegerType → Identifier → List Parameter → Items → Declaration
