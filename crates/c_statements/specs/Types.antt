-- Which typed tree a tree has, under the names in sight (C99 6.5, 6.8).
use Rattle.std.specs.Prelude.{◌≡◌, ℕ, List, [], ◌∷◌, Option, Some, None, Bool}
use Rattle.c_tokens.specs.declared.token.Identifier.{Identifier}
use Rattle.c_tokens.specs.declared.token.IntegerType.{IntegerType}
use Rattle.c_tokens.specs.declared.token.Literal.{Literal}
use Rattle.c_tree.specs.declared.tree.UnaryOp.{UnaryOp}
use Rattle.c_tree.specs.declared.tree.BinaryOp.{BinaryOp}
use Rattle.c_tree.specs.Tree as Tree
use Rattle.c_tree.specs.Tree.{Expression}
use Rattle.c_statements.specs.declared.names.Named.TheVariants.{Local, Global, Array}
use Rattle.c_statements.specs.declared.names.Named.TheVariants as Named
use Rattle.c_typed.specs.declared.tree.Destination.{Destination}
use Rattle.c_statements.specs.Names.{Environment}
use Rattle.c_statements.specs.Names.{Scopes, environment_in, within, with_local, behind}
use Rattle.c_typed.specs.Trees.{TypedExpression, TypedStatement, TypedStatements, constant, local, global, element, unary, binary}
use Rattle.c_typed.specs.Trees.{conditional, type_of, prefix_type, operation_type, common_type, one, empty, block, unset, assign, store}
use Rattle.c_typed.specs.Trees.{call, output, if_else, loop, break_loop, continue_loop, return_with, no_statements, more_statements}

pub data Types (scope : Environment) : Expression → TypedExpression → Type 0 where
  constant_typed : {c : Literal} → Types scope (Tree.constant c) (constant c)
  local_typed : {x : Identifier} {n : ℕ} {k : IntegerType} → scope x ≡ Some (Local n k) → Types scope (Tree.name x) (local n k)
  global_typed : {x : Identifier} {n : ℕ} {k : IntegerType} → scope x ≡ Some (Global n k) → Types scope (Tree.name x) (global n k)
  element_typed : {x : Identifier} {n : ℕ} {k : IntegerType} {e : Expression} {t : TypedExpression} → scope x ≡ Some (Array n k)
      → Types scope e t →
      Types scope (Tree.index x e) (element n k t)
  unary_typed : {o : UnaryOp} {e : Expression} {t : TypedExpression} → Types scope e t
      → Types scope (Tree.unary o e) (unary o (prefix_type o (type_of t)) t)
  binary_typed : {o : BinaryOp} {l r : Expression} {t u : TypedExpression} → Types scope l t → Types scope r u →
      Types scope (Tree.binary o l r) (binary o (operation_type o (type_of t) (type_of u)) t u)
  conditional_typed : {c a b : Expression} {s t u : TypedExpression} → Types scope c s → Types scope a t → Types scope b u →
      Types scope (Tree.conditional c a b) (conditional (common_type (type_of t) (type_of u)) s t u)

pub data TypesAll (scope : Environment) : List Expression → List TypedExpression → Type 0 where
  all_typed : TypesAll scope [] []
  more_typed : {e : Expression} {t : TypedExpression} {rest : List Expression} {typed : List TypedExpression} → Types scope e t
      → TypesAll scope rest typed →
      TypesAll scope (e ∷ rest) (t ∷ typed)

pub data TypesMaybe (scope : Environment) : Option Expression → Option TypedExpression → Type 0 where
  missing_typed : TypesMaybe scope None None
  present_typed : {e : Expression} {t : TypedExpression} → Types scope e t → TypesMaybe scope (Some e) (Some t)

-- where a variable's value is kept
pub data TypesPlace (scope : Environment) : Identifier → Destination → Type 0 where
  local_place : {x : Identifier} {n : ℕ} {k : IntegerType} → scope x ≡ Some (Named.Local n k) → TypesPlace scope x (Destination.Local n)
  global_place : {x : Identifier} {n : ℕ} {k : IntegerType} → scope x ≡ Some (Named.Global n k) → TypesPlace scope x (Destination.Global n)

-- a call whose result goes to a place, or nowhere; `out` has none
pub data TypesCall (scope : Environment) : Option Destination → Tree.Call → TypedStatement → Type 0 where
  function_called : {to : Option Destination} {x : Identifier} {f n : ℕ} {r : Bool} {all : List Expression} {typed : List TypedExpression}
      → scope x ≡ Some (Named.Function f n r) →
      TypesAll scope all typed → TypesCall scope to (Tree.call x all) (call to f typed)
  out_called : {x : Identifier} {e : Expression} {t : TypedExpression} → scope x ≡ Some Named.Out → Types scope e t →
      TypesCall scope None (Tree.call x (e ∷ [])) (output t)

-- a place is given a value
pub data TypesValue (scope : Environment) (to : Destination) : Tree.Value → TypedStatement → Type 0 where
  plain_typed : {e : Expression} {t : TypedExpression} → Types scope e t → TypesValue scope to (Tree.plain e) (assign to t)
  called_typed : {c : Tree.Call} {s : TypedStatement} → TypesCall scope (Some to) c s → TypesValue scope to (Tree.called c) s

pub data TypesSimple (scope : Environment) : Tree.Simple → TypedStatement → Type 0 where
  assign_typed : {x : Identifier} {to : Destination} {v : Tree.Value} {s : TypedStatement} → TypesPlace scope x to
      → TypesValue scope to v s →
      TypesSimple scope (Tree.assign x v) s
  store_typed : {x : Identifier} {n : ℕ} {k : IntegerType} {i e : Expression} {t u : TypedExpression} → scope x ≡ Some (Named.Array n k)
      → Types scope i t → Types scope e u →
      TypesSimple scope (Tree.assign_at x i e) (store n t u)
  call_typed : {c : Tree.Call} {s : TypedStatement} → TypesCall scope None c s → TypesSimple scope (Tree.call_statement c) s

-- a part of a `for` that is missing does nothing
pub data TypesPart (scope : Environment) : Option Tree.Simple → TypedStatement → Type 0 where
  no_part : TypesPart scope None empty
  some_part : {p : Tree.Simple} {s : TypedStatement} → TypesSimple scope p s → TypesPart scope (Some p) s

-- a test that is missing is the constant 1 (C99 6.8.5.3)
pub data TypesTest (scope : Environment) : Option Expression → TypedExpression → Type 0 where
  no_test : TypesTest scope None (constant one)
  some_test : {e : Expression} {t : TypedExpression} → Types scope e t → TypesTest scope (Some e) t

-- the first value of the local of a number; without one the local is unset
pub data TypesFirst (scope : Environment) (n : ℕ) : Option Tree.Value → TypedStatement → Type 0 where
  no_first : TypesFirst scope n None (unset n)
  some_first : {v : Tree.Value} {s : TypedStatement} → TypesValue scope (Destination.Local n) v s → TypesFirst scope n (Some v) s

mutual
  -- a `while` is a loop with an empty last part, and a `for` the block of its first part and the loop
  pub data TypesStatement (text : List ℕ) : Scopes → Tree.Statement → TypedStatement → Type 0 where
    empty_typed : {sc : Scopes} → TypesStatement text sc Tree.empty empty
    block_typed : {sc : Scopes} {all : Tree.Items} {typed : TypedStatements} → TypesItems text (within sc) all typed
        → TypesStatement text sc (Tree.block all) (block typed)
    if_then_typed : {sc : Scopes} {c : Expression} {t : TypedExpression} {s : Tree.Statement} {u : TypedStatement}
        → Types (environment_in text sc) c t → TypesStatement text sc s u →
        TypesStatement text sc (Tree.if_then c s) (if_else t u empty)
    if_then_else_typed : {sc : Scopes} {c : Expression} {t : TypedExpression} {s e : Tree.Statement} {u v : TypedStatement}
        → Types (environment_in text sc) c t → TypesStatement text sc s u →
        TypesStatement text (behind sc s) e v → TypesStatement text sc (Tree.if_then_else c s e) (if_else t u v)
    while_loop_typed : {sc : Scopes} {c : Expression} {t : TypedExpression} {s : Tree.Statement} {u : TypedStatement}
        → Types (environment_in text sc) c t → TypesStatement text sc s u →
        TypesStatement text sc (Tree.while_loop c s) (loop t empty u)
    for_loop_typed : {sc : Scopes} {f l : Option Tree.Simple} {c : Option Expression} {s : Tree.Statement} {first last u : TypedStatement}
        {t : TypedExpression} →
        TypesPart (environment_in text sc) f first → TypesTest (environment_in text sc) c t → TypesPart (environment_in text sc) l last
        → TypesStatement text sc s u →
        TypesStatement text sc (Tree.for_loop f c l s) (block (more_statements first (more_statements (loop t last u) no_statements)))
    break_typed : {sc : Scopes} {at : ℕ} → TypesStatement text sc (Tree.break_at at) break_loop
    continue_typed : {sc : Scopes} {at : ℕ} → TypesStatement text sc (Tree.continue_at at) continue_loop
    return_typed : {sc : Scopes} {at : ℕ} {e : Option Expression} {t : Option TypedExpression} → TypesMaybe (environment_in text sc) e t
        → TypesStatement text sc (Tree.return_at at e) (return_with t)
    simply_typed : {sc : Scopes} {p : Tree.Simple} {s : TypedStatement} → TypesSimple (environment_in text sc) p s
        → TypesStatement text sc (Tree.simply p) s

  pub data TypesItems (text : List ℕ) : Scopes → Tree.Items → TypedStatements → Type 0 where
    no_items_typed : {sc : Scopes} → TypesItems text sc Tree.no_items no_statements
    statement_typed : {sc : Scopes} {s : Tree.Statement} {u : TypedStatement} {rest : Tree.Items} {typed : TypedStatements}
        → TypesStatement text sc s u →
        TypesItems text (behind sc s) rest typed → TypesItems text sc (Tree.more_items (Tree.statement s) rest) (more_statements u typed)
    declare_typed : {sc : Scopes} {k : IntegerType} {x : Identifier} {v : Option Tree.Value} {u : TypedStatement} {rest : Tree.Items}
        {typed : TypedStatements} →
        TypesFirst (environment_in text (with_local text sc k x)) sc.locals v u → TypesItems text (with_local text sc k x) rest typed →
        TypesItems text sc (Tree.more_items (Tree.declare k x v) rest) (more_statements u typed)
