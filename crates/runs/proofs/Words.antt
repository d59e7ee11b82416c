-- Locals, registers and globals that hold words.
use Rattle.std.proofs.Common.{◌≡◌, ℕ, zero, suc, List, [], ◌∷◌, Bool, true, false, Option, Some, None, refl, subst, nat_eq, cond}
use Rattle.std.specs.Prelude.{All}
use Rattle.std.specs.List.{slice_get, slice_set}
use Rattle.std.proofs.lemmas.Option.{none-some, same_Some}
use Rattle.std.proofs.lemmas.List.Elements.{All-head, All-tail, All-set}
use Rattle.runs.specs.Stores.{Places, Arrays, unset_places, places_with, chain, element_at, arrays_with, IsWord, PlacesHoldWords, ArraysHoldWords}

-- where a chain has a value, its first part has one
pub chain-some : {A B : Type 0} (o : Option A) (f : A → Option B) (b : B) → chain o f ≡ Some b → (a : A) × (o ≡ Some a) × (f a ≡ Some b)
chain-some None f b e = absurd (none-some b e)
chain-some (Some a) f b e = (a, refl, e)

pub at-index : {A : Type 0} (P : A → Type 0) (xs : List A) (i : ℕ) (x : A) → All P xs → slice_get xs i ≡ Some x → P x
at-index P [] i x h e = absurd (none-some x e)
at-index P (y ∷ xs) zero x h e = subst P (same_Some y x e) (All-head P y xs h)
at-index P (y ∷ xs) (suc i) x h e = at-index P xs i x (All-tail P y xs h) e

pub element-at : (g : Arrays) (a i v : ℕ) → ArraysHoldWords g → element_at g a i ≡ Some v → IsWord v
element-at g a i v h e =
    let s = chain-some (slice_get g a) (λ words. slice_get words i) v e in
    at-index IsWord s.0 i v (at-index (All IsWord) g a s.0 h s.1) s.2

pub unset-words : PlacesHoldWords unset_places
unset-words x v e = absurd (none-some v e)

pub written-words : (p : Places) (x : ℕ) (o : Option ℕ) → PlacesHoldWords p → ((v : ℕ) → o ≡ Some v → IsWord v) → PlacesHoldWords (places_with p x o)
written-words p x o h w y v e = by (nat_eq y x) e
  where
    by : (b : Bool) → cond b o (p y) ≡ Some v → IsWord v
    by true f = w v f
    by false f = h y v f

pub stored-words : (g : Arrays) (a i v : ℕ) (after : Arrays) → ArraysHoldWords g → IsWord v → arrays_with g a i v ≡ Some after → ArraysHoldWords after
stored-words g a i v after h w e =
    let s = chain-some (slice_get g a) (λ words. chain (slice_get words i) (λ _. Some (slice_set g a (slice_set words i v)))) after e in
    let t = chain-some (slice_get s.0 i) (λ (x : ℕ). Some (slice_set g a (slice_set s.0 i v))) after s.2 in
    let is : slice_set g a (slice_set s.0 i v) ≡ after = same_Some (slice_set g a (slice_set s.0 i v)) after t.2 in
    subst ArraysHoldWords is (All-set (All IsWord) g a (slice_set s.0 i v) (All-set IsWord s.0 i v w (at-index (All IsWord) g a s.0 h s.1)) h)
