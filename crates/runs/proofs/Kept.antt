-- Locals and globals as an interpreter keeps them.
use Rattle.std.proofs.Common.{◌≡◌, ◌≢◌, ℕ, zero, suc, ◌<◌, ◌≤◌, Bool, true, false, List, [], ◌∷◌, ◌++◌, Option, Some, None, refl, sym, ◌∙◌, ap, length, nat_eq}
use Rattle.std.proofs.Common.{eqb-true, get_or, map, set, get_or-set_same, get_or-set_other}
use Rattle.std.specs.List.{slice_get}
use Rattle.std.specs.Option.{option_map}
use Rattle.std.specs.declared.vec.Vec.{Vec}
use Rattle.std.specs.declared.alloc.Global.{Global}
use Rattle.std.proofs.lemmas.List.{map-set}
use Rattle.std.proofs.lemmas.Option.{slice_get-map, slice_get-get_or, slice_get_past}
use mathlib.Core.Path.{fun_ext}
use Rattle.std.specs.Prelude.{if◌then◌else◌}
use Rattle.std.proofs.lemmas.Bool.{eqb-false}
use Rattle.runs.specs.Stores.{places_with, chain, arrays_with}
use Rattle.runs.specs.Kept.{places, arrays}

one_unset : (xs : List (Option ℕ)) (y : ℕ) → get_or (xs ++ None ∷ []) y None ≡ get_or xs y None
one_unset [] zero = refl
one_unset [] (suc y) = refl
one_unset (x ∷ xs) zero = refl
one_unset (x ∷ xs) (suc y) = one_unset xs y

pub places-push : (xs : List (Option ℕ)) → places (xs ++ None ∷ []) ≡ places xs
places-push xs = fun_ext (λ y. one_unset xs y)

pub places-set : (xs : List (Option ℕ)) (x : ℕ) (v : Option ℕ) → x < length xs → places (set xs x v) ≡ places_with (places xs) x v
places-set xs x v lt = fun_ext (λ y. by y (nat_eq y x) refl)
  where
    by : (y : ℕ) (b : Bool) → nat_eq y x ≡ b → get_or (set xs x v) y None ≡ (if nat_eq y x then v else get_or xs y None)
    by y true e =
        let y_x : y ≡ x = eqb-true y x e in
        ap (λ y. get_or (set xs x v) y None) y_x ∙ get_or-set_same xs x v None lt ∙ sym (ap (λ c. if c then v else get_or xs y None) e)
    by y false e =
        let ne : y ≢ x = eqb-false y x e in
        get_or-set_other xs x y v None ne ∙ sym (ap (λ c. if c then v else get_or xs y None) e)

the_words : (gs : List (Vec ℕ Global)) (a : ℕ) (d : Vec ℕ Global) → a < length gs → slice_get (arrays gs) a ≡ Some (get_or gs a d).items
the_words gs a d lt = slice_get-map (λ (v : Vec ℕ Global). v.items) gs a ∙ ap (option_map (λ (v : Vec ℕ Global). v.items)) (slice_get-get_or gs a d lt)

pub stored-there : (gs : List (Vec ℕ Global)) (a i v : ℕ) (d w : Vec ℕ Global) → a < length gs → i < length (get_or gs a d).items
    → w.items ≡ set (get_or gs a d).items i v → arrays_with (arrays gs) a i v ≡ Some (arrays (set gs a w))
stored-there gs a i v d w lt inside e =
    let words = (get_or gs a d).items in
    ap (λ o. chain o (λ words. chain (slice_get words i) (λ _. Some (set (arrays gs) a (set words i v))))) (the_words gs a d lt)
    ∙ ap (λ o. chain o (λ _. Some (set (arrays gs) a (set words i v)))) (slice_get-get_or words i 0 inside)
    ∙ ap (λ words. Some (set (arrays gs) a words)) (sym e)
    ∙ ap Some (sym (map-set (λ (v : Vec ℕ Global). v.items) gs a w))

pub stored-outside : (gs : List (Vec ℕ Global)) (a i v : ℕ) (d : Vec ℕ Global) → a < length gs → length (get_or gs a d).items ≤ i
    → arrays_with (arrays gs) a i v ≡ None
stored-outside gs a i v d lt past =
    let words = (get_or gs a d).items in
    ap (λ o. chain o (λ words. chain (slice_get words i) (λ _. Some (set (arrays gs) a (set words i v))))) (the_words gs a d lt)
    ∙ ap (λ o. chain o (λ _. Some (set (arrays gs) a (set words i v)))) (slice_get_past words i past)

pub stored-nowhere : (gs : List (Vec ℕ Global)) (a i v : ℕ) → length gs ≤ a → arrays_with (arrays gs) a i v ≡ None
stored-nowhere gs a i v past =
    ap (λ o. chain o (λ words. chain (slice_get words i) (λ _. Some (set (arrays gs) a (set words i v)))))
    (slice_get-map (λ (v : Vec ℕ Global). v.items) gs a ∙ ap (option_map (λ (v : Vec ℕ Global). v.items)) (slice_get_past gs a past))

places-at : (words : List ℕ) (x : ℕ) → get_or (map Some words) x None ≡ slice_get words x
places-at [] zero = refl
places-at [] (suc x) = refl
places-at (v ∷ words) zero = refl
places-at (v ∷ words) (suc x) = places-at words x

-- each of the words is set, and no other place
pub places-set_to : (words : List ℕ) → places (map Some words) ≡ (λ x. slice_get words x)
places-set_to words = fun_ext (λ x. places-at words x)
