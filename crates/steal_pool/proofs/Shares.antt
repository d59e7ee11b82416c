-- A share as the tasks are gone through.
use Rattle.std.proofs.Common.{◌≡◌, ◌≢◌, ℕ, zero, suc, ◌+◌, ◌%◌, ◌<◌, cond, eqb, List, [], ◌∷◌, ◌++◌, refl, sym, ap, ◌∙◌, subst, Some, slice_get, length, set, mod-eq_of_lt, arith, inl, inr, ⊎_elim, ◌⊎◌}
use Rattle.std.proofs.lemmas.Option.{slice_get_within}
use Rattle.std.proofs.lemmas.Bool.Decides.{nat_tests}
use Rattle.std.proofs.lemmas.List.Sums.{sum_by-append}
use Rattle.steal_pool.specs.Rule.{times}
use Rattle.steal_pool.specs.declared.view.View.{View}
use Rattle.steal_pool.specs.Rule.{after_putting, shared}
use Rattle.steal_pool.specs.Shares.{IsShare, IsAscending, Begins, Visits}

pub share_more : (w count n : ℕ) (xs : List ℕ) → n % count ≡ w → IsShare w count n xs → IsShare w count (n + 1) (xs ++ n ∷ [])
share_more w count n xs is h x =
    let a : times x (xs ++ n ∷ []) ≡ times x xs + times x (n ∷ []) = sum_by-append _ xs (n ∷ []) in
    let b : times x (n ∷ []) ≡ cond (eqb n x) 1 0 = omega arith in
    let c = h x in
    let e : x ≡ n → x % count ≡ w = λ e. ap (λ y. y % count) e ∙ is in
    grind (arith, nat_tests)

pub share_same : (w count n : ℕ) (xs : List ℕ) → n % count ≢ w → IsShare w count n xs → IsShare w count (n + 1) xs
share_same w count n xs not h x =
    let c = h x in
    let e : x ≡ n → x % count ≢ w = λ e f. not (ap (λ y. y % count) (sym e) ∙ f) in
    grind (arith, nat_tests)

-- what holds of each element and its place holds of one more
pub each_more : {X : Type 0} (R : ℕ → X → Type 0) (xs : List X) (x : X) → ((k : ℕ) (y : X) → slice_get xs k ≡ Some y → R k y) → R (length xs) x
    → (k : ℕ) (y : X) → slice_get (xs ++ x ∷ []) k ≡ Some y → R k y
each_more R [] x h last zero y at = let e : x ≡ y = cc at in subst (R zero) e last
each_more R [] x h last (suc k) y at = absurd (cc at)
each_more R (z ∷ zs) x h last zero y at = h zero y at
each_more R (z ∷ zs) x h last (suc k) y at = each_more (λ j. R (suc j)) zs x (λ j u e. h (suc j) u e) last k y at

abbrev pub AllBelow : ℕ → List ℕ → Type 0
AllBelow n xs = (k x : ℕ) → slice_get xs k ≡ Some x → x < n

last_or : {X : Type 0} (xs : List X) (x : X) (k : ℕ) (y : X) → slice_get (xs ++ x ∷ []) k ≡ Some y → (slice_get xs k ≡ Some y) ⊎ ((k ≡ length xs) × (x ≡ y))
last_or [] x zero y at = inr (refl, cc at)
last_or [] x (suc k) y at = absurd (cc at)
last_or (z ∷ zs) x zero y at = inl at
last_or (z ∷ zs) x (suc k) y at = ⊎_elim (λ (h : slice_get zs k ≡ Some y). inl h) (λ (h : (k ≡ length zs) × (x ≡ y)). inr (ap suc h.0, h.1)) (last_or zs x k y at)

below_push : (n : ℕ) (xs : List ℕ) → AllBelow n xs → AllBelow (n + 1) (xs ++ n ∷ [])
below_push n xs h = each_more (λ k x. x < n + 1) xs n (λ k x at. let low = h k x at in omega (arith, low)) (omega arith)

ascending_more : (n : ℕ) (xs : List ℕ) → AllBelow n xs → IsAscending xs → IsAscending (xs ++ n ∷ [])
ascending_more n xs low h j k x y less at at' =
    ⊎_elim
    (λ (b : slice_get xs k ≡ Some y).
    let within = slice_get_within xs k y b in
    ⊎_elim (λ (a : slice_get xs j ≡ Some x). h j k x y less a b) (λ (a : (j ≡ length xs) × (n ≡ x)). absurd (omega (arith, less, within, a.0))) (last_or xs n j x at))
    (λ (b : (k ≡ length xs) × (n ≡ y)).
    ⊎_elim (λ (a : slice_get xs j ≡ Some x). let under = low j x a in omega (arith, under, b.1))
    (λ (a : (j ≡ length xs) × (n ≡ x)). absurd (omega (arith, less, a.0, b.0))) (last_or xs n j x at)) (last_or xs n k y at')

-- the tasks below n have been gone through
abbrev pub Filling : ℕ → ℕ → ℕ → View → Type 0
Filling w count n v = Begins w count n v × AllBelow n v.put

pub begins_more : (w count n : ℕ) (v u : View) → u ≡ after_putting v (n ∷ []) → n % count ≡ w → Filling w count n v → Filling w count (n + 1) u
begins_more w count n v u e is h =
    let P : View → Type 0 = Filling w count (n + 1) in
    let was = h.0 in
    subst P (sym e) ((was.0, share_more w count n v.put is was.1, was.2, ascending_more n v.put h.1 was.3), below_push n v.put h.1)

pub begins_same : (w count n : ℕ) (v : View) → n % count ≢ w → Filling w count n v → Filling w count (n + 1) v
begins_same w count n v not h =
    let was = h.0 in ((was.0, share_same w count n v.put not was.1, was.2, was.3), λ k x at. let low = h.1 k x at in omega (arith, low))

-- the pass that is made of another knows its share
pub visits : (w count n : ℕ) (v : View) → Begins w count n v → Visits w count n (shared v)
visits w count n v h = (refl, h.1, refl, h.3)

-- two places have no share in common
pub shares_differ : (count n i j : ℕ) (xs ys : List ℕ) → i < count → i < n → i ≢ j → IsShare i count n xs → IsShare j count n ys → xs ≢ ys
shares_differ count n i j xs ys below more other a b same =
    let same_times : times i xs ≡ times i ys = ap (times i) same in
    let mine = a i in
    let theirs = b i in
    let is : i % count ≡ i = mod-eq_of_lt below in
    grind (arith, nat_tests)

-- what holds of each element and its place holds after one changed
pub each_set : {X : Type 0} (R : ℕ → X → Type 0) (xs : List X) (k : ℕ) (y : X) → R k y → ((j : ℕ) (x : X) → slice_get xs j ≡ Some x → R j x)
    → (j : ℕ) (x : X) → slice_get (set xs k y) j ≡ Some x → R j x
each_set R [] k y mine before j x e = before j x e
each_set R (z ∷ zs) zero y mine before zero x e = let new : y ≡ x = cc e in subst (R zero) new mine
each_set R (z ∷ zs) zero y mine before (suc j) x e = before (suc j) x e
each_set R (z ∷ zs) (suc k) y mine before zero x e = before zero x e
each_set R (z ∷ zs) (suc k) y mine before (suc j) x e = each_set (λ i. R (suc i)) zs k y mine (λ i u f. before (suc i) u f) j x e

-- what holds of what was put, at each place, holds after a pass took something
pub put_kept : (P : ℕ → List ℕ → Type 0) (views : List View) (k : ℕ) (v w : View) → slice_get views k ≡ Some v → w.put ≡ v.put
    → ((j : ℕ) (u : View) → slice_get views j ≡ Some u → P j u.put) → (j : ℕ) (u : View) → slice_get (set views k w) j ≡ Some u → P j u.put
put_kept P views k v w at same before = each_set (λ j u. P j u.put) views k w (subst (P k) (sym same) (before k v at)) before
