-- A list with a place for each task, as answers are put into it.
use Rattle.std.proofs.Common.{◌≡◌, ℕ, List, length, Option, Some, None, slice_set, refl, ap, subst, ◌<◌, All, sym, ◌∙◌}
use Rattle.std.proofs.lemmas.Option.{same_Some, slice_get_within, get_or_from_slice_get}
use Rattle.steal_pool.specs.Places.{EachPlace}
use Rattle.steal_pool.proofs.Shares.{each_set}

pub nothing_placed : {O : Type 0} (right : ℕ → O → Type 0) (xs : List (Option O)) → All (λ x. x ≡ None) xs → EachPlace right xs
nothing_placed right xs none i out at =
    let within : i < length xs = slice_get_within xs i (Some out) at in
    let same : None ≡ Some out = sym (none i None within) ∙ get_or_from_slice_get xs i (Some out) None at in
    absurd (cc (same))

pub placed : {O : Type 0} (right : ℕ → O → Type 0) (xs : List (Option O)) (k : ℕ) (v : O) → right k v → EachPlace right xs → EachPlace right (slice_set xs k (Some v))
placed {O} right xs k v this before i out at =
    let R : ℕ → Option O → Type 0 = λ j o. (x : O) → o ≡ Some x → right j x in
    each_set R xs k (Some v) (λ x e. subst (right k) (same_Some v x e) this) (λ j o e x is. before j x (e ∙ ap Some is)) i (Some out) at out refl
