-- A run that goes on holds words.
use Rattle.std.proofs.Common.{◌≡◌, ℕ, List, ◌∷◌, Option, Some, None, refl, subst}
use Rattle.std.specs.Prelude.{All}
use Rattle.std.proofs.lemmas.Option.{same_Some}
use Rattle.std.proofs.lemmas.List.Elements.{All-cons}
use Rattle.runs.specs.Stores.{Places, Arrays, places_with, IsWord, PlacesHoldWords, ArraysHoldWords}
use Rattle.runs.specs.Runs.{Configuration, Running, with_value, HoldsWords}
use Rattle.runs.proofs.Words.{written-words}

-- with a value, or failed
pub with-words : {Call A : Type 0} (Holds : Call → Type 0) (o : Option A) (out : List ℕ) (go : A → Configuration Call) → All IsWord out
    → ((a : A) → o ≡ Some a → HoldsWords Holds (go a)) → HoldsWords Holds (with_value o out go)
with-words Holds None out go h k = h
with-words Holds (Some a) out go h k = k a refl

pub running-words : {Call : Type 0} (Holds : Call → Type 0) (call : Call) (calls : List Call) (g : Arrays) (out : List ℕ) → Holds call → All Holds calls
    → ArraysHoldWords g → All IsWord out → HoldsWords Holds (Running (call ∷ calls) g out)
running-words Holds call calls g out a b c d = (All-cons Holds call calls a b, (c, d))

pub set-words : (p : Places) (x v : ℕ) → PlacesHoldWords p → IsWord v → PlacesHoldWords (places_with p x (Some v))
set-words p x v h w = written-words p x (Some v) h (λ u e. subst IsWord (same_Some v u e) w)
