-- A list of one item.
use Rattle.std.proofs.Common.{◌≡◌, ◌<◌, ◌≤◌, List, [], ◌∷◌, length, map, refl, slice_index_or, arith}

pub one_item : {A B : Type 0} (f : A → B) (d : A) (xs : List A) → 1 ≤ length xs → length xs < 2 → map f xs ≡ f (slice_index_or xs 0 d) ∷ []
one_item f d (x ∷ []) low high = refl
one_item f d _ low high = absurd (omega arith)
