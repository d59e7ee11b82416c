-- Elements of lists.
use Rattle.std.proofs.Common.{◌≡◌, ℕ, zero, suc, ◌+◌, ◌<◌, ◌≤◌, List, [], ◌∷◌, ◌++◌, length, drop, get_or, Some, sym, ap, subst, ◌∙◌, arith}
use Rattle.std.specs.Prelude.{All, slice_get}
use Rattle.std.proofs.lemmas.List.{append_assoc, append-nil, at_drop_more, at_drop_all}
use Rattle.std.proofs.lemmas.Option.{none-some, slice_get_within, get_or_from_slice_get}

pub all_at : {A : Type 0} (P : A → Type 0) (xs : List A) (i : ℕ) (x : A) → All P xs → slice_get xs i ≡ Some x → P x
all_at P xs i x all there = subst P (get_or_from_slice_get xs i x x there) (all i x (slice_get_within xs i x there))

pub get_behind : {A : Type 0} (a b : List A) (i : ℕ) → slice_get (a ++ b) (length a + i) ≡ slice_get b i
get_behind [] b i = (let zero_i : 0 + i ≡ i = omega arith in ap (slice_get b) zero_i)
get_behind (x ∷ a) b i = (let next : length (x ∷ a) + i ≡ suc (length a + i) = omega arith in ap (slice_get (x ∷ a ++ b)) next) ∙ get_behind a b i

pub get_before : {A : Type 0} (a b : List A) (i : ℕ) (x : A) → slice_get a i ≡ Some x → slice_get (a ++ b) i ≡ Some x
get_before [] b i x e = absurd (none-some x e)
get_before (y ∷ a) b zero x e = e
get_before (y ∷ a) b (suc i) x e = get_before a b i x e

-- a loop over a list at its next element
pub drop_item : {A B : Type 0} (f : List A → B) (xs : List A) (i : ℕ) {x : A} → i < length xs → x ≡ get_or xs i x → f (drop i xs) ≡ f (x ∷ drop (i + 1) xs)
drop_item f xs i {x} within is = at_drop_more f xs i x within ∙ ap (λ y. f (y ∷ drop (i + 1) xs)) (sym is)

-- what is made element by element: behind what one element gives comes what the rest gives
pub made_more : {A B : Type 0} (f : List A → List B) (xs : List A) (i : ℕ) {x : A} (out own rest : List B) {all : List B} → i < length xs → x ≡ get_or xs i x
    → f (x ∷ drop (i + 1) xs) ≡ own ++ rest → out ++ f (drop i xs) ≡ all → (out ++ own) ++ rest ≡ all
made_more f xs i out own rest within is step before =
    append_assoc out own rest ∙ ap (λ l. out ++ l) (sym (drop_item f xs i within is ∙ step)) ∙ before

-- behind the last element nothing is left
pub all_made : {A B : Type 0} (f : List A → List B) (xs : List A) (i : ℕ) {out all : List B} → length xs ≤ i → f [] ≡ [] → out ++ f (drop i xs) ≡ all
    → out ≡ all
all_made f xs i {out} past none before = sym (append-nil out) ∙ ap (λ l. out ++ l) (sym (at_drop_all f xs i past ∙ none)) ∙ before
