-- Typed statements without faults are well formed.
use Rattle.std.proofs.Common.{◌≡◌, ◌≢◌, ◌<◌, ◌≤◌, ◌+◌, ℕ, suc, List, Option, Some, None, Bool, true, false, length, inl, inr, refl}
use Rattle.std.proofs.Common.{subst, ap, ◌∙◌, arith, if◌then◌else◌}
use Rattle.std.specs.Prelude.{is_some, slice_get, bytes_eq}
use Rattle.std.proofs.lemmas.Option.{same_Some}
use Rattle.c_tokens.specs.declared.token.Identifier.{Identifier}
use Rattle.c_tokens.specs.declared.token.IntegerType.{IntegerType}
use Rattle.c_tree.specs.Tree as Tree
use Rattle.c_tree.specs.Tree.{Expression}
use Rattle.c_statements.specs.declared.fault.TypeFaultKind.{TypeFaultKind}
use Rattle.c_statements.specs.declared.fault.TypeFaultKind.TheVariants.{Kind as KindFault, Count, Outside, Limit}
use Rattle.c_statements.specs.declared.names.Named.{Named}
use Rattle.c_statements.specs.declared.names.Named.TheVariants.{Local, Global, Array, Function, Out}
use Rattle.c_typed.specs.declared.tree.Destination.{Destination}
use Rattle.c_statements.specs.Faults.{HasNone}
use Rattle.c_statements.specs.Names.{Environment, Bindings, Scopes, hides, binding_in, named_in, environment_in, spelling_in, within}
use Rattle.c_statements.specs.Names.{with_local, behind, declared_in, declared_in_all}
use Rattle.c_statements.specs.Uses.{IsWrong, as_call, void_used, other_count}
use Rattle.c_statements.specs.Statements.{FaultyCall, FaultyValue, FaultyFirst, FaultySimple, FaultyPart, FaultyReturn, FaultyJump}
use Rattle.c_statements.specs.Statements.{FaultyStatement, FaultyItems, local_too_many}
use Rattle.c_typed.specs.Trees.{TypedExpression, TypedStatement, TypedStatements, TypedFunction, TypedProgram}
use Rattle.c_statements.specs.Types.{Types, constant_typed, local_typed, global_typed, element_typed, unary_typed, binary_typed}
use Rattle.c_statements.specs.Types.{conditional_typed, TypesAll, all_typed, more_typed, TypesMaybe, missing_typed, present_typed}
use Rattle.c_statements.specs.Types.{TypesPlace, local_place, global_place, TypesCall, function_called, out_called, TypesValue, plain_typed}
use Rattle.c_statements.specs.Types.{called_typed, TypesSimple, assign_typed, store_typed, call_typed, TypesPart, no_part, some_part}
use Rattle.c_statements.specs.Types.{TypesTest, no_test, some_test, TypesFirst, no_first, some_first, TypesStatement, empty_typed}
use Rattle.c_statements.specs.Types.{block_typed, if_then_typed, if_then_else_typed, while_loop_typed, for_loop_typed, break_typed}
use Rattle.c_statements.specs.Types.{continue_typed, return_typed, simply_typed, TypesItems, no_items_typed, statement_typed, declare_typed}
use Rattle.c_typed.specs.WellFormed.{FitsExpression, FitsAll, FitsMaybe, FitsPlace, FitsTarget, FitsStatement, FitsStatements}

-- what a name stands for is there, in a function with so many locals
abbrev pub IsThere : TypedProgram → (locals : ℕ) → Named → Type 0
IsThere p n (Local x k) = x < n
IsThere p n (Global x k) = x < length p.globals
IsThere p n (Array x k) = x < length p.globals
IsThere p n (Function f m r) = (g : TypedFunction) × ((slice_get p.functions f ≡ Some g) × ((m ≡ g.parameters) × (is_some g.result ≡ r)))
IsThere p n Out = Unit {0}

-- what the names in sight stand for is there
abbrev pub AreThere : TypedProgram → (locals : ℕ) → Bindings → Type 0
AreThere p n names = (w : List ℕ) (m : Named) → names w ≡ Some m → IsThere p n m

abbrev AreSeen : TypedProgram → (locals : ℕ) → Environment → Type 0
AreSeen p n scope = (x : Identifier) (m : Named) → scope x ≡ Some m → IsThere p n m

typed-length : {scope : Environment} {es : List Expression} {ts : List TypedExpression} → TypesAll scope es ts → length ts ≡ length es
typed-length all_typed = refl
typed-length (more_typed e rest) = ap suc (typed-length rest)

maybe-same : {scope : Environment} {e : Option Expression} {t : Option TypedExpression} → TypesMaybe scope e t → is_some t ≡ is_some e
maybe-same missing_typed = refl
maybe-same (present_typed e) = refl

-- without a fault the number of arguments is right, and a result that is wanted is given
right-count : (s : Option Named) (f n m : ℕ) (r w : Bool) → s ≡ Some (Function f n r) → ((k : TypeFaultKind) → IsWrong s (as_call m w) k → ⊥) → m ≡ n
right-count s f n m r w e h = let not : m ≢ n → ⊥ = λ i. h Count (rw e (other_count i)) in grind (arith, not)

is-given : (s : Option Named) (f n m : ℕ) (r w : Bool) → s ≡ Some (Function f n r) → ((k : TypeFaultKind) → IsWrong s (as_call m w) k → ⊥) → w ≡ true → r ≡ true
is-given s f n m true w e h i = refl
is-given s f n m false true e h i = absurd (h KindFault (rw e void_used))
is-given s f n m false false e h i = cc

in-loop : (l : Bool) (place : ℕ) → HasNone (FaultyJump l place) → l ≡ true
in-loop true place h = refl
in-loop false place h = absurd (h Outside place (refl, refl))

right-return : (g : Bool) (e : Option Expression) (place : ℕ) → HasNone (FaultyReturn g e place) → is_some e ≡ g
right-return true (Some e) place h = refl
right-return true None place h = absurd (h KindFault place (refl, refl))
right-return false (Some e) place h = absurd (h KindFault place (refl, refl))
right-return false None place h = refl

module _ (p : TypedProgram) (n : ℕ) where
  fits : {scope : Environment} {e : Expression} {t : TypedExpression} → AreSeen p n scope → Types scope e t → FitsExpression p n t
  fits h constant_typed = tt
  fits h (local_typed e) = h _ _ e
  fits h (global_typed e) = h _ _ e
  fits h (element_typed e s) = (h _ _ e, fits h s)
  fits h (unary_typed s) = (refl, fits h s)
  fits h (binary_typed l r) = (refl, (fits h l, fits h r))
  fits h (conditional_typed c a b) = (refl, (fits h c, (fits h a, fits h b)))

  fits-all : {scope : Environment} {es : List Expression} {ts : List TypedExpression} → AreSeen p n scope → TypesAll scope es ts → FitsAll p n ts
  fits-all h all_typed = tt
  fits-all h (more_typed e rest) = (fits h e, fits-all h rest)

  fits-maybe : {scope : Environment} {e : Option Expression} {t : Option TypedExpression} → AreSeen p n scope → TypesMaybe scope e t → FitsMaybe p n t
  fits-maybe h missing_typed = tt
  fits-maybe h (present_typed e) = fits h e

  fits-place : {scope : Environment} {x : Identifier} {to : Destination} → AreSeen p n scope → TypesPlace scope x to → FitsPlace p n to
  fits-place h (local_place e) = h _ _ e
  fits-place h (global_place e) = h _ _ e

  fits-call : {scope : Environment} {to : Option Destination} {c : Tree.Call} {t : TypedStatement} (g l : Bool) → AreSeen p n scope
      → FitsTarget p n to → TypesCall scope to c t → HasNone (FaultyCall scope (is_some to) c)
      → FitsStatement p n g l t
  fits-call {scope = scope} {to = to} g l h target (function_called {x = x} {f = f} {n = m} {r = r} {all = es} e all) none =
      let there = h _ _ e in
      let right : (k : TypeFaultKind) → IsWrong (scope x) (as_call (length es) (is_some to)) k → ⊥ = λ k w. none k x.at (inl (w, refl)) in
      let count = typed-length all ∙ right-count (scope x) f m (length es) r (is_some to) e right ∙ there.1.1.0 in
      let gives = λ (i : is_some to ≡ true). there.1.1.1 ∙ is-given (scope x) f m (length es) r (is_some to) e right i in
      (target, (record { callee = there.0; there = there.1.0; count = count; gives = gives }, fits-all h all))
  fits-call g l h target (out_called e s) none = fits h s

  fits-value : {scope : Environment} {to : Destination} {v : Tree.Value} {t : TypedStatement} (g l : Bool) → AreSeen p n scope
      → FitsPlace p n to → TypesValue scope to v t → HasNone (FaultyValue scope v) → FitsStatement p n g l t
  fits-value g l h target (plain_typed e) none = (target, fits h e)
  fits-value g l h target (called_typed c) none = fits-call g l h target c none

  fits-simple : {scope : Environment} {s : Tree.Simple} {t : TypedStatement} (g l : Bool) → AreSeen p n scope → TypesSimple scope s t
      → HasNone (FaultySimple scope s) → FitsStatement p n g l t
  fits-simple g l h (assign_typed to v) none = fits-value g l h (fits-place h to) v (λ k at w. none k at (inr w))
  fits-simple g l h (store_typed e i s) none = (h _ _ e, (fits h i, fits h s))
  fits-simple g l h (call_typed c) none = fits-call g l h tt c none

  fits-part : {scope : Environment} {s : Option Tree.Simple} {t : TypedStatement} (g l : Bool) → AreSeen p n scope → TypesPart scope s t
      → HasNone (FaultyPart scope s) → FitsStatement p n g l t
  fits-part g l h no_part none = tt
  fits-part g l h (some_part s) none = fits-simple g l h s none

  fits-test : {scope : Environment} {e : Option Expression} {t : TypedExpression} → AreSeen p n scope → TypesTest scope e t → FitsExpression p n t
  fits-test h no_test = tt
  fits-test h (some_test e) = fits h e

  fits-first : {x : ℕ} {scope : Environment} {v : Option Tree.Value} {t : TypedStatement} (g l : Bool) → AreSeen p n scope → x < n
      → TypesFirst scope x v t → HasNone (FaultyFirst scope v) → FitsStatement p n g l t
  fits-first g l h here no_first none = here
  fits-first g l h here (some_first v) none = fits-value g l h here v none

  seen : (text : List ℕ) (sc : Scopes) → AreThere p n (named_in sc) → AreSeen p n (environment_in text sc)
  seen text sc h x m e = h (spelling_in text x) m e

  -- what a name means in the innermost scope, where a local has just been declared
  declared-by : (x : ℕ) (k : IntegerType) (inner around : Option Named) (m : Named) (b : Bool)
      → ((i : Named) → hides inner around ≡ Some i → IsThere p n i) → x < n
      → hides (if b then Some (Local x k) else inner) around ≡ Some m → IsThere p n m
  declared-by x k inner around m true h here e = subst (IsThere p n) (same_Some _ _ e) here
  declared-by x k inner around m false h here e = h _ e

  pub declared-there : (text : List ℕ) (sc : Scopes) (k : IntegerType) (x : Identifier) → AreThere p n (named_in sc) → sc.locals < n
      → AreThere p n (named_in (with_local text sc k x))
  declared-there text sc k x h here w m e =
      declared-by sc.locals k (sc.inner w) (binding_in sc.around w) m (bytes_eq (spelling_in text x) w) (λ i f. h w i f) here e

  mutual
    fits-statement : {text : List ℕ} {sc : Scopes} {s : Tree.Statement} {t : TypedStatement} (g l : Bool) → AreThere p n (named_in sc)
        → sc.locals + declared_in s ≤ n → TypesStatement text sc s t
        → HasNone (FaultyStatement text g l sc s) → FitsStatement p n g l t
    fits-statement g l h room empty_typed none = tt
    fits-statement g l h room (block_typed all) none = fits-items g l h room all none
    fits-statement {text = text} {sc = sc} g l h room (if_then_typed c s) none = (fits (seen text sc h) c, (fits-statement g l h room s (λ k at w. none k at (inr w)), tt))
    fits-statement {text = text} {sc = sc} g l h room (if_then_else_typed c a b) none =
        let first = fits-statement g l h (omega (arith, room)) a (λ k at w. none k at (inr (inl w))) in
        (fits (seen text sc h) c, (first, fits-statement g l h (omega (arith, room)) b (λ k at w. none k at (inr (inr w)))))
    fits-statement {text = text} {sc = sc} g l h room (while_loop_typed c s) none = (fits (seen text sc h) c, (tt, fits-statement g true h room s (λ k at w. none k at (inr w))))
    fits-statement {text = text} {sc = sc} g l h room (for_loop_typed f c last s) none =
        let first = fits-part g l (seen text sc h) f (λ k at w. none k at (inl w)) in
        let again = fits-part g false (seen text sc h) last (λ k at w. none k at (inr (inr (inl w)))) in
        (first, ((fits-test (seen text sc h) c, (again, fits-statement g true h room s (λ k at w. none k at (inr (inr (inr w)))))), tt))
    fits-statement g l h room (break_typed {at = at}) none = in-loop l at none
    fits-statement g l h room (continue_typed {at = at}) none = in-loop l at none
    fits-statement {text = text} {sc = sc} g l h room (return_typed {at = at} {e = e} v) none =
        (maybe-same v ∙ right-return g e at (λ k n w. none k n (inl w)), fits-maybe (seen text sc h) v)
    fits-statement {text = text} {sc = sc} g l h room (simply_typed s) none = fits-simple g l (seen text sc h) s none

    pub fits-items : {text : List ℕ} {sc : Scopes} {is : Tree.Items} {ts : TypedStatements} (g l : Bool) → AreThere p n (named_in sc)
        → sc.locals + declared_in_all is ≤ n → TypesItems text sc is ts → HasNone (FaultyItems text g l sc is) → FitsStatements p n g l ts
    fits-items g l h room no_items_typed none = tt
    fits-items g l h room (statement_typed s rest) none =
        (fits-statement g l h (omega (arith, room)) s (λ k at w. none k at (inl w)), fits-items g l h (omega (arith, room)) rest (λ k at w. none k at (inr w)))
    fits-items {text = text} {sc = sc} g l h room (declare_typed {k = integer_type} {x = x} v rest) none =
        let here : sc.locals < n = omega (arith, room) in
        let there = declared-there text sc integer_type x h here in
        (fits-first g l (seen text (with_local text sc integer_type x) there) here v (λ k at w. none k at (inl (inr w))), fits-items g l there (omega (arith, room)) rest (λ k at w. none k at (inr w)))

mutual
  locals-fit : (text : List ℕ) (g l : Bool) (sc : Scopes) (s : Tree.Statement) → sc.locals ≤ 128 → HasNone (FaultyStatement text g l sc s)
      → sc.locals + declared_in s ≤ 128
  locals-fit text g l sc (Tree.block all) few none = all-locals-fit text g l (within sc) all few none
  locals-fit text g l sc (Tree.if_then c s) few none = locals-fit text g l sc s few (λ k at w. none k at (inr w))
  locals-fit text g l sc (Tree.if_then_else c s t) few none =
      let first = locals-fit text g l sc s few (λ k at w. none k at (inr (inl w))) in
      omega (arith, locals-fit text g l (behind sc s) t first (λ k at w. none k at (inr (inr w))))
  locals-fit text g l sc (Tree.while_loop c s) few none = locals-fit text g true sc s few (λ k at w. none k at (inr w))
  locals-fit text g l sc (Tree.for_loop f c last s) few none = locals-fit text g true sc s few (λ k at w. none k at (inr (inr (inr w))))
  locals-fit text g l sc _ few none = omega (arith, few)

  pub all-locals-fit : (text : List ℕ) (g l : Bool) (sc : Scopes) (is : Tree.Items) → sc.locals ≤ 128 → HasNone (FaultyItems text g l sc is)
      → sc.locals + declared_in_all is ≤ 128
  all-locals-fit text g l sc Tree.no_items few none = omega (arith, few)
  all-locals-fit text g l sc (Tree.more_items (Tree.statement s) rest) few none =
      let first = locals-fit text g l sc s few (λ k at w. none k at (inl w)) in
      omega (arith, all-locals-fit text g l (behind sc s) rest first (λ k at w. none k at (inr w)))
  all-locals-fit text g l sc (Tree.more_items (Tree.declare integer_type x v) rest) few none =
      let other : sc.locals ≢ 128 = λ e. none Limit x.at (inl (inl (local_too_many e))) in
      omega (arith, all-locals-fit text g l (with_local text sc integer_type x) rest (omega (arith, few, other)) (λ k at w. none k at (inr w)))
