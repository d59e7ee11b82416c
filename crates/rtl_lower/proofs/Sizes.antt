-- The sizes of lists of statements, taken from the last one on.
use Rattle.std.proofs.Common.{◌≡◌, Bool, ℕ, zero, suc, ◌+◌, ◌-◌, ◌<◌, ◌≤◌, true, List, [], ◌∷◌, ◌++◌, Some, None, refl, sym, ◌∙◌, ap}
use Rattle.std.proofs.Common.{add-one, arith, length, get_or, take, drop}
use Rattle.std.specs.Prelude.{slice_get, ◌||◌}
use Rattle.std.proofs.lemmas.List.Folds.{list_any_at}
use Rattle.std.specs.List.{list_any}
use Rattle.std.proofs.lemmas.Option.{none-some, same_Some, slice_get-get_or}
use Rattle.std.proofs.Math.Seq.{take-suc, drop-cons}
use Rattle.c_typed.specs.declared.tree.TypedStatement.{TypedStatement}
use Rattle.c_typed.specs.Shape.{statement_of, statements_of}
use Rattle.c_typed.specs.Trees as Trees
use Rattle.c_typed.specs.Trees.{TypedStatements, no_statements, more_statements}
use Rattle.rtl_lower.specs.Sizes.{continues, any_continues, stays, last_stays}

-- a measure of statements
abbrev mutual
  pub weight : Trees.TypedStatement → ℕ
  weight (Trees.block all) = weight_all all + 1
  weight (Trees.if_else e a b) = weight a + weight b + 3
  weight (Trees.loop e last body) = weight last + weight body + 3
  weight _ = 1

  pub weight_all : TypedStatements → ℕ
  weight_all no_statements = 0
  weight_all (more_statements s rest) = weight s + weight_all rest + 1

pub weight_within : (all : List TypedStatement) (k : ℕ) (d : TypedStatement) → k < length all
    → weight (statement_of (get_or all k d)) < weight_all (statements_of all)
weight_within [] k d lt = absurd (omega arith)
weight_within (s ∷ all) zero d lt = omega arith
weight_within (s ∷ all) (suc k) d lt = omega (arith, weight_within all k d (omega arith))

-- one of them, and none of them
any_is : (all : List TypedStatement) → any_continues (statements_of all) ≡ list_any (λ s. continues (statement_of s)) all
any_is [] = refl
any_is (s ∷ all) = ap (λ c. continues (statement_of s) || c) (any_is all)

pub any_of : (all : List TypedStatement) (k : ℕ) (s : TypedStatement) → k < length all → s ≡ get_or all k s → continues (statement_of s) ≡ true
    → any_continues (statements_of all) ≡ true
any_of all k s lt is e =
    rw (any_is all) (list_any_at (λ s. continues (statement_of s)) all k s lt (ap (λ s. continues (statement_of s)) (sym is) ∙ e))

pub take_one : {A : Type 0} (all : List A) (i j : ℕ) (x d : A) → i < length all → j ≡ i + 1 → x ≡ get_or all i d → take j all ≡ take i all ++ x ∷ []
take_one all i j x d lt ij is = rw (ij, add-one, is) (take-suc all i d lt)

-- statements of a list that are done, the last ones
pub one_left : (all : List TypedStatement) (s : TypedStatement) (done : ℕ) → done < length all → s ≡ get_or all (length all - 1 - done) s
    → statements_of (drop (length all - (done + 1)) all) ≡ more_statements (statement_of s) (statements_of (drop (length all - done) all))
one_left all s done lt is =
    let k = length all - (done + 1) in
    let same : length all - 1 - done ≡ k = omega arith in
    let more : length all - done ≡ suc k = omega (arith, lt) in
    let at : s ≡ get_or all k s = is ∙ ap (λ n. get_or all n s) same in
    ap statements_of (drop-cons all k s (omega (arith, lt)) ∙ ap (λ x. x ∷ drop (suc k) all) (sym at) ∙ ap (λ n. s ∷ drop n all) (sym more))

-- a measure of a rest is no more than of the whole
pub rest_within : (measure : TypedStatements → ℕ) → ((s : Trees.TypedStatement) (rest : TypedStatements) → measure rest ≤ measure (more_statements s rest))
    → (k : ℕ) (all : List TypedStatement) → measure (statements_of (drop k all)) ≤ measure (statements_of all)
rest_within measure more zero all = omega arith
rest_within measure more (suc k) [] = omega arith
rest_within measure more (suc k) (s ∷ all) =
    omega (arith, more (statement_of s) (statements_of all), rest_within measure more k all)

-- the last statement of a list, by which code goes on after it
pub last_of : (v w : List TypedStatement) (b : Bool) (s : TypedStatement) → v ≡ w → Some s ≡ slice_get v (length v - 1)
    → last_stays (statements_of w) b ≡ stays (statement_of s)
last_of v [] b s iv e = absurd (none-some s (sym (rw iv at e)))
last_of v (x ∷ []) b s iv e = ap (λ s. stays (statement_of s)) (same_Some x s (sym (rw iv at e)))
last_of v (x ∷ y ∷ w) b s iv e =
    let next : length (x ∷ y ∷ w) - 1 ≡ suc (length (y ∷ w) - 1) = omega arith in
    last_of (y ∷ w) (y ∷ w) (stays (statement_of x)) s refl (rw (iv, next) at e)

pub last_none : (v w : List TypedStatement) → v ≡ w → None ≡ slice_get v (length v - 1) → last_stays (statements_of w) true ≡ true
last_none v [] iv e = refl
last_none v (x ∷ w) iv e = absurd (none-some _ ((rw iv at e) ∙ slice_get-get_or (x ∷ w) (length (x ∷ w) - 1) x (omega arith)))
