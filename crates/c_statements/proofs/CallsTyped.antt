-- Calls put together from their target and their arguments.
use Rattle.std.proofs.Common.{◌≡◌, ◌++◌, ℕ, suc, List, [], ◌∷◌, length, Option, Some, Bool, true, is_some, None, Result, inl}
use Rattle.std.proofs.Common.{refl, sym, ap, ◌∙◌, arith}
use Rattle.std.specs.declared.vec.Vec.{Vec}
use Rattle.std.specs.declared.alloc.Global.{Global}
use Rattle.c_tokens.specs.declared.token.Identifier.{Identifier}
use Rattle.c_tree.specs.declared.tree.Expression.{Expression}
use Rattle.c_tree.specs.Shape.{expressions_of}
use Rattle.c_tree.specs.Tree as Tree
use Rattle.c_statements.specs.declared.call.Target.{Target}
use Rattle.c_statements.specs.declared.call.Target.TheVariants.{Function as ToFunction, Out as ToOut}
use Rattle.c_statements.specs.declared.fault.TypeFaultKind.{TypeFaultKind}
use Rattle.c_statements.specs.declared.fault.TypeFaultKind.TheVariants.{Kind as KindFault, Count}
use Rattle.c_statements.specs.declared.fault.TypeStop.{TypeStop}
use Rattle.c_statements.specs.declared.names.Named.{Named}
use Rattle.c_statements.specs.declared.names.Named.TheVariants.{Function, Out}
use Rattle.c_typed.specs.declared.tree.Destination.{Destination}
use Rattle.c_typed.specs.declared.tree.TypedExpression.{TypedExpression}
use Rattle.c_statements.specs.Calls.{IsTarget, function_target, out_target}
use Rattle.c_statements.specs.Faults.{Answers, HasNone, both_of}
use Rattle.c_statements.specs.Names.{Environment}
use Rattle.c_typed.specs.Shape.{typed_expression_of, typed_expressions_of}
use Rattle.c_statements.specs.Statements.{FaultyAll, FaultyCall}
use Rattle.c_typed.specs.Trees as Trees
use Rattle.c_typed.specs.Trees.{call, output}
use Rattle.c_statements.specs.Types.{Types, TypesAll, more_typed, TypesCall, function_called, out_called}
use Rattle.c_statements.specs.Uses.{as_call, IsWrong, Misused, out_used, other_count_out}
use Rattle.c_statements.proofs.Joins.{answers-both}

length-expressions : (es : List Expression) → length (expressions_of es) ≡ length es
length-expressions [] = refl
length-expressions (e ∷ es) = ap suc (length-expressions es)

-- what is told of a call's name and its arguments, which are counted on the values of the program
pub call-told : {scope : Environment} {x : Identifier} (es : List Expression) {n : ℕ} {w v : Bool} {a : Result Target TypeStop}
    {b : Result (Vec TypedExpression Global) TypeStop} → n ≡ length es → w ≡ v → Answers (IsTarget (scope x)) (Misused scope x (as_call n w)) a
    → Answers (λ (ts : Vec TypedExpression Global). TypesAll scope (expressions_of es) (typed_expressions_of ts.items)) (FaultyAll scope (expressions_of es)) b
    → Answers (λ z. IsTarget (scope x) z.0 × TypesAll scope (expressions_of es) (typed_expressions_of z.1.items))
    (FaultyCall scope v (Tree.call x (expressions_of es))) (both_of a b)
call-told es e f h l = answers-both (rw (e ∙ sym (length-expressions es), f) at h) l

named-function : (m : Option Named) (t : Target) (f : ℕ) → IsTarget m t → t ≡ ToFunction f → (n : ℕ) × (r : Bool) × (m ≡ Some (Function f n r))
named-function m t f (function_target {f = g} {n = n} {r = r}) e = let i : g ≡ f = cc in (n, r, rw i)
named-function m t f out_target e = cc

named-out : (m : Option Named) (t : Target) → IsTarget m t → t ≡ ToOut → m ≡ Some Out
named-out m t function_target e = cc
named-out m t out_target e = refl

pub function-ok : (scope : Environment) (to : Option Destination) (x : Identifier) (t : Target) (f : ℕ) (es : List Tree.Expression)
    (ts : List Trees.TypedExpression) → IsTarget (scope x) t → t ≡ ToFunction f → TypesAll scope es ts
    → TypesCall scope to (Tree.call x es) (call to f ts)
function-ok scope to x t f es ts h e l = let n = named-function (scope x) t f h e in function_called n.2 l

-- a call of `out` without a fault has one argument, and its result isn't used
module _ (scope : Environment) (x : Identifier) (w : Bool) (is : scope x ≡ Some Out) where
  wrong-out : (es : List Tree.Expression) (k : TypeFaultKind) → HasNone (FaultyCall scope w (Tree.call x es)) → IsWrong (Some Out) (as_call (length es) w) k → ⊥
  wrong-out es k none i = none k x.at (inl (rw is i, refl))

  one-argument : (es : List Tree.Expression) (xs : List TypedExpression) (t : TypedExpression) → HasNone (FaultyCall scope w (Tree.call x es))
      → TypesAll scope es (typed_expressions_of (xs ++ t ∷ [])) → (e : Tree.Expression) × (es ≡ e ∷ []) × Types scope e (typed_expression_of t)
  one-argument [] xs t none h = absurd (wrong-out [] Count none (other_count_out (λ g. cc)))
  one-argument (e ∷ []) [] t none (more_typed h rest) = (e, refl, h)
  one-argument (e ∷ []) (y ∷ []) t none (more_typed h rest) = elim rest [ ]
  one-argument (e ∷ []) (y ∷ z ∷ zs) t none (more_typed h rest) = elim rest [ ]
  one-argument (e ∷ f ∷ es) xs t none h = absurd (wrong-out (e ∷ f ∷ es) Count none (other_count_out (λ g. omega (arith, g))))

  no-argument : (es : List Tree.Expression) → HasNone (FaultyCall scope w (Tree.call x es)) → TypesAll scope es [] → ⊥
  no-argument [] none h = wrong-out [] Count none (other_count_out (λ g. cc))
  no-argument (e ∷ es) none h = elim h [ ]

out-unused : (scope : Environment) (x : Identifier) (es : List Tree.Expression) (to : Option Destination) → scope x ≡ Some Out
    → HasNone (FaultyCall scope (is_some to) (Tree.call x es)) → to ≡ None
out-unused scope x es None is none = refl
out-unused scope x es (Some p) is none = absurd (wrong-out scope x true is es KindFault none out_used)

pub out-ok : {scope : Environment} (to : Option Destination) (x : Identifier) {t : Target} (es : List Tree.Expression) {all : List TypedExpression}
    (xs : List TypedExpression) (a : TypedExpression) → IsTarget (scope x) t → t ≡ ToOut → HasNone (FaultyCall scope (is_some to) (Tree.call x es))
    → TypesAll scope es (typed_expressions_of all) → all ≡ xs ++ a ∷ [] → TypesCall scope to (Tree.call x es) (output (typed_expression_of a))
out-ok to x es xs a h e none m g =
    let is = named-out _ _ h e in
    let one = one-argument _ x (is_some to) is es xs a none (rw g at m) in
    rw (out-unused _ x es to is none, one.1) (out_called is one.2)

pub out-some : {scope : Environment} (x : Identifier) {t : Target} (w : Bool) (es : List Tree.Expression) (all : List TypedExpression)
    → IsTarget (scope x) t → t ≡ ToOut → HasNone (FaultyCall scope w (Tree.call x es)) → TypesAll scope es (typed_expressions_of all) → length all ≡ 0 → ⊥
out-some x w es [] h e none m l = no-argument _ x w (named-out _ _ h e) es none m
out-some x w es (a ∷ all) h e none m l = omega (arith, l)
