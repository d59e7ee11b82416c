-- Lists of arguments with one more at the end.
use Rattle.std.proofs.Common.{◌≡◌, ◌⊎◌, ◌+◌, ◌<◌, ℕ, List, [], ◌∷◌, ◌++◌, length, get_or, take, Result, Ok, IfOk, IfErr, inl, inr, refl, sym, ap, ◌∙◌}
use Rattle.std.proofs.lemmas.List.{take_more}
use Rattle.std.specs.declared.vec.Vec.{Vec}
use Rattle.std.specs.declared.alloc.Global.{Global}
use Rattle.c_tree.specs.declared.tree.Expression.{Expression}
use Rattle.c_tree.specs.Shape.{expression_of, expressions_of}
use Rattle.c_tree.specs.Tree as Tree
use Rattle.c_typed.specs.declared.tree.TypedExpression.{TypedExpression}
use Rattle.c_statements.specs.declared.fault.TypeFaultKind.{TypeFaultKind}
use Rattle.c_statements.specs.declared.fault.TypeStop.{TypeStop}
use Rattle.c_statements.specs.Faults.{Answers, both_of}
use Rattle.c_statements.specs.Made.{HasLast, MadeOf, Stops}
use Rattle.c_statements.specs.Names.{Environment}
use Rattle.c_typed.specs.Shape.{typed_expression_of, typed_expressions_of}
use Rattle.c_statements.specs.Statements.{FaultyAll}
use Rattle.c_typed.specs.Trees as Trees
use Rattle.c_statements.specs.Types.{Types, TypesAll, all_typed, more_typed}
use Rattle.c_statements.specs.Uses.{Faulty}
use Rattle.c_statements.proofs.Firsts.{Both}
use Rattle.c_statements.proofs.Joins.{Same, answers-both, answers-made, answers-same}

pub expressions-append : (xs : List Expression) (e : Expression) → expressions_of (xs ++ e ∷ []) ≡ expressions_of xs ++ expression_of e ∷ []
expressions-append [] e = refl
expressions-append (x ∷ xs) e = ap (λ ys. expression_of x ∷ ys) (expressions-append xs e)

pub terms-append : (xs : List TypedExpression) (t : TypedExpression)
    → typed_expressions_of (xs ++ t ∷ []) ≡ typed_expressions_of xs ++ typed_expression_of t ∷ []
terms-append [] t = refl
terms-append (x ∷ xs) t = ap (λ ys. typed_expression_of x ∷ ys) (terms-append xs t)

typed-append : {scope : Environment} {es : List Tree.Expression} {ts : List Trees.TypedExpression} {e : Tree.Expression}
    {t : Trees.TypedExpression} → TypesAll scope es ts → Types scope e t → TypesAll scope (es ++ e ∷ []) (ts ++ t ∷ [])
typed-append all_typed h = more_typed h all_typed
typed-append (more_typed l rest) h = more_typed l (typed-append rest h)

faulty-to : (scope : Environment) (es : List Tree.Expression) (e : Tree.Expression) (k : TypeFaultKind) (at : ℕ)
    → FaultyAll scope es k at ⊎ Faulty scope e k at → FaultyAll scope (es ++ e ∷ []) k at
faulty-to scope [] e k at (inl h) = absurd h
faulty-to scope [] e k at (inr h) = inl h
faulty-to scope (x ∷ es) e k at (inl (inl h)) = inl h
faulty-to scope (x ∷ es) e k at (inl (inr h)) = inr (faulty-to scope es e k at (inl h))
faulty-to scope (x ∷ es) e k at (inr h) = inr (faulty-to scope es e k at (inr h))

faulty-from : (scope : Environment) (es : List Tree.Expression) (e : Tree.Expression) (k : TypeFaultKind) (at : ℕ)
    → FaultyAll scope (es ++ e ∷ []) k at → FaultyAll scope es k at ⊎ Faulty scope e k at
faulty-from scope [] e k at (inl h) = inr h
faulty-from scope [] e k at (inr h) = absurd h
faulty-from scope (x ∷ es) e k at (inl h) = inl (inl h)
faulty-from scope (x ∷ es) e k at (inr h) = elim (faulty-from scope es e k at h) [ inl l ↦ inl (inr l) | inr r ↦ inr r ]

pub same-faults : (scope : Environment) (xs : List Expression) (e : Expression)
    → Same (Both (FaultyAll scope (expressions_of xs)) (Faulty scope (expression_of e))) (FaultyAll scope (expressions_of (xs ++ e ∷ [])))
same-faults scope xs e =
    rw expressions-append record { to = faulty-to scope (expressions_of xs) (expression_of e); from = faulty-from scope (expressions_of xs) (expression_of e) }

pub typed-more : (scope : Environment) (xs : List Expression) (e : Expression) (ts : List TypedExpression) (t : TypedExpression)
    → TypesAll scope (expressions_of xs) (typed_expressions_of ts) → Types scope (expression_of e) (typed_expression_of t)
    → TypesAll scope (expressions_of (xs ++ e ∷ [])) (typed_expressions_of (ts ++ t ∷ []))
typed-more scope xs e ts t h l = rw (expressions-append xs e, terms-append ts t) (typed-append h l)

-- the answer for the arguments so far
abbrev pub SoFar : Environment → List Expression → Result (Vec TypedExpression Global) TypeStop → Type 0
SoFar scope es r = Answers (λ (v : Vec TypedExpression Global). TypesAll scope (expressions_of es) (typed_expressions_of v.items))
    (FaultyAll scope (expressions_of es)) r

pub none-so-far : (scope : Environment) (v : Vec TypedExpression Global) → v.items ≡ [] → SoFar scope [] (Ok v)
none-so-far scope v e = record { ok = rw e all_typed; none = λ k at h. h; err = tt }

pub one-so-far : {scope : Environment} (all : List Expression) (i : ℕ) (e : Expression) {typed r : Result (Vec TypedExpression Global) TypeStop}
    {one : Result TypedExpression TypeStop} → i < length all → e ≡ get_or all i e → SoFar scope (take i all) typed
    → Answers (λ t. Types scope (expression_of e) (typed_expression_of t)) (Faulty scope (expression_of e)) one
    → IfOk r (MadeOf (both_of typed one) HasLast) → IfErr r (Stops (both_of typed one)) → SoFar scope (take (i + 1) all) r
one-so-far {scope = scope} all i e l is h one made stops =
    rw (take_more all i e l ∙ ap (λ (x : Expression). take i all ++ x ∷ []) (sym is))
    (answers-same (same-faults scope (take i all) e) (answers-made HasLast (answers-both h one) made stops
    (λ z v p q. rw q (typed-more scope (take i all) e z.0.items z.1 p.0 p.1))))
