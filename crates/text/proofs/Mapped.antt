-- A loop that pushes what a function makes of each element.
use Rattle.std.proofs.Common.{◌≡◌, ℕ, ◌+◌, ◌<◌, List, [], ◌∷◌, ◌++◌, length, get_or, take, map, append_assoc}
use Rattle.std.proofs.lemmas.List.{map_more}

pub mapped_more : (f : ℕ → ℕ) (xs before : List ℕ) (i d v : ℕ) {now next : List ℕ} → i < length xs → next ≡ now ++ v ∷ [] → v ≡ f (get_or xs i d)
    → now ≡ before ++ map f (take i xs) → next ≡ before ++ map f (take (i + 1) xs)
mapped_more f xs before i d v within grown made is = cc (grown, made, is, map_more f xs i d within, append_assoc before (map f (take i xs)) (v ∷ []))
