-- What holds of the elements before a place, and of the one there, holds of those before the next place.
use Rattle.std.proofs.Common.{◌≡◌, ℕ, zero, suc, ◌+◌, ◌<◌, List, [], ◌∷◌, Some, slice_get, length, get_or, subst, ◌∙◌, arith}
use Rattle.std.proofs.lemmas.Option.{same_Some}

pub one_more : {A : Type 0} (R : ℕ → A → Type 0) (l : List A) (k : ℕ) (x : A) → k < length l → x ≡ get_or l k x → R k x
    → ((i : ℕ) (y : A) → i < k → slice_get l i ≡ Some y → R i y) → (i : ℕ) (y : A) → i < k + 1 → slice_get l i ≡ Some y → R i y
one_more R [] k x lt is here before i y low at = absurd (omega (arith, lt))
one_more R (z ∷ l) zero x lt is here before zero y low at = subst (R zero) (is ∙ same_Some z y at) here
one_more R (z ∷ l) zero x lt is here before (suc i) y low at = absurd (omega (arith, low))
one_more R (z ∷ l) (suc k) x lt is here before zero y low at = before zero y (omega arith) at
one_more R (z ∷ l) (suc k) x lt is here before (suc i) y low at =
    one_more (λ j. R (suc j)) l k x (omega (arith, lt)) is here (λ j u less e. before (suc j) u (omega (arith, less)) e) i y (omega (arith, low)) at
