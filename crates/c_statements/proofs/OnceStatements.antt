-- Calls, values, statements and items have at most one typed tree.
use Rattle.std.proofs.Common.{◌≡◌, ℕ, List, Option, refl, ap}
use Rattle.c_tokens.specs.declared.token.Identifier.{Identifier}
use Rattle.c_tree.specs.Tree as Tree
use Rattle.c_tree.specs.Tree.{Expression}
use Rattle.c_typed.specs.declared.tree.Destination.{Destination}
use Rattle.c_statements.specs.Names.{Environment, Scopes}
use Rattle.c_typed.specs.Trees.{TypedExpression, TypedStatement, TypedStatements, block, return_with}
use Rattle.c_statements.specs.Types.{TypesAll, all_typed, more_typed, TypesMaybe, missing_typed, present_typed, TypesPlace, local_place}
use Rattle.c_statements.specs.Types.{global_place, TypesCall, function_called, out_called, TypesValue, plain_typed, called_typed}
use Rattle.c_statements.specs.Types.{TypesSimple, assign_typed, store_typed, call_typed, TypesPart, no_part, some_part, TypesTest, no_test}
use Rattle.c_statements.specs.Types.{some_test, TypesFirst, no_first, some_first, TypesStatement, empty_typed, block_typed, if_then_typed}
use Rattle.c_statements.specs.Types.{if_then_else_typed, while_loop_typed, for_loop_typed, break_typed, continue_typed, return_typed}
use Rattle.c_statements.specs.Types.{simply_typed, TypesItems, no_items_typed, statement_typed, declare_typed}
use Rattle.c_statements.proofs.Once.{once, same-named}

once-all : {scope : Environment} {es : List Expression} {ts us : List TypedExpression} → TypesAll scope es ts → TypesAll scope es us → ts ≡ us
once-all all_typed all_typed = refl
once-all (more_typed a b) (more_typed c d) = let g = once a c in let h = once-all b d in cc

once-maybe : {scope : Environment} {e : Option Expression} {t u : Option TypedExpression} → TypesMaybe scope e t → TypesMaybe scope e u → t ≡ u
once-maybe missing_typed missing_typed = refl
once-maybe (present_typed a) (present_typed b) = let g = once a b in cc

once-place : {scope : Environment} {x : Identifier} {p q : Destination} → TypesPlace scope x p → TypesPlace scope x q → p ≡ q
once-place (local_place e) (local_place f) = let g = same-named e f in cc
once-place (local_place e) (global_place f) = let g = same-named e f in cc
once-place (global_place e) (local_place f) = let g = same-named e f in cc
once-place (global_place e) (global_place f) = let g = same-named e f in cc

once-call : {scope : Environment} {to : Option Destination} {c : Tree.Call} {t u : TypedStatement} → TypesCall scope to c t → TypesCall scope to c u → t ≡ u
once-call (function_called e a) (function_called f b) = let g = same-named e f in let h = once-all a b in cc
once-call (function_called e a) (out_called f b) = let g = same-named e f in cc
once-call (out_called e a) (function_called f b) = let g = same-named e f in cc
once-call (out_called e a) (out_called f b) = let h = once a b in cc

once-value : {scope : Environment} {to : Destination} {v : Tree.Value} {t u : TypedStatement} → TypesValue scope to v t → TypesValue scope to v u → t ≡ u
once-value (plain_typed a) (plain_typed b) = let g = once a b in cc
once-value (called_typed a) (called_typed b) = once-call a b

once-simple : {scope : Environment} {p : Tree.Simple} {t u : TypedStatement} → TypesSimple scope p t → TypesSimple scope p u → t ≡ u
once-simple (assign_typed a b) (assign_typed c d) = once-value (rw (once-place a c) at b) d
once-simple (store_typed e a b) (store_typed f c d) = let n = same-named e f in let g = once a c in let h = once b d in cc
once-simple (call_typed a) (call_typed b) = once-call a b

once-part : {scope : Environment} {p : Option Tree.Simple} {t u : TypedStatement} → TypesPart scope p t → TypesPart scope p u → t ≡ u
once-part no_part no_part = refl
once-part (some_part a) (some_part b) = once-simple a b

once-test : {scope : Environment} {e : Option Expression} {t u : TypedExpression} → TypesTest scope e t → TypesTest scope e u → t ≡ u
once-test no_test no_test = refl
once-test (some_test a) (some_test b) = once a b

once-first : {scope : Environment} {n : ℕ} {v : Option Tree.Value} {t u : TypedStatement} → TypesFirst scope n v t → TypesFirst scope n v u → t ≡ u
once-first no_first no_first = refl
once-first (some_first a) (some_first b) = once-value a b

mutual
  pub once-statement : {text : List ℕ} {sc : Scopes} {s : Tree.Statement} {t u : TypedStatement} → TypesStatement text sc s t
      → TypesStatement text sc s u → t ≡ u
  once-statement empty_typed empty_typed = refl
  once-statement (block_typed a) (block_typed b) = ap block (once-items a b)
  once-statement (if_then_typed a b) (if_then_typed c d) = let g = once a c in let h = once-statement b d in cc
  once-statement (if_then_else_typed a b c) (if_then_else_typed d e f) = let g = once a d in let h = once-statement b e in let i = once-statement c f in cc
  once-statement (while_loop_typed a b) (while_loop_typed c d) = let g = once a c in let h = once-statement b d in cc
  once-statement (for_loop_typed a b c d) (for_loop_typed e f g h) = let i = once-part a e in let j = once-test b f in let k =
      once-part c g in let l = once-statement d h in cc
  once-statement break_typed break_typed = refl
  once-statement continue_typed continue_typed = refl
  once-statement (return_typed a) (return_typed b) = ap return_with (once-maybe a b)
  once-statement (simply_typed a) (simply_typed b) = once-simple a b

  pub once-items : {text : List ℕ} {sc : Scopes} {is : Tree.Items} {t u : TypedStatements} → TypesItems text sc is t → TypesItems text sc is u → t ≡ u
  once-items no_items_typed no_items_typed = refl
  once-items (statement_typed a b) (statement_typed c d) = let g = once-statement a c in let h = once-items b d in cc
  once-items (declare_typed a b) (declare_typed c d) = let g = once-first a c in let h = once-items b d in cc
