-- How far arguments reach, one after another.
use Rattle.std.proofs.Common.{◌≡◌, ℕ, suc, ◌+◌, ◌<◌, List, ◌∷◌, arith, length, drop, get_or, nat_eq}
use Rattle.std.specs.Prelude.{if◌then◌else◌, max}
use Rattle.std.proofs.Math.Seq.{drop-cons}
use Rattle.mips_homes.specs.Preferences.{reach_from}

pub raise_step : (xs : List ℕ) (i : ℕ) (start old new : List ℕ) → i < length xs
    → ((y : ℕ) → get_or new y 0 ≡ max (get_or old y 0) (if nat_eq y (get_or xs i 0) then i + 1 else 0))
    → ((y : ℕ) → max (get_or old y 0) (reach_from i (drop i xs) y) ≡ max (get_or start y 0) (reach_from 0 xs y))
    → (y : ℕ) → max (get_or new y 0) (reach_from (i + 1) (drop (i + 1) xs) y) ≡ max (get_or start y 0) (reach_from 0 xs y)
raise_step xs i start old new lt one before y =
    let next : suc i ≡ i + 1 = omega arith in
    let here : drop i xs ≡ get_or xs i 0 ∷ drop (suc i) xs = drop-cons xs i 0 lt in
    let split : reach_from i (drop i xs) y ≡ max (if nat_eq y (get_or xs i 0) then i + 1 else 0) (reach_from (i + 1) (drop (i + 1) xs) y) =
    cc in
    let e = one y in
    let f = before y in
    omega (arith, e, f, split)
