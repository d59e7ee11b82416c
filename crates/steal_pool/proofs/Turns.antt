-- A list in which one element changes, as it is seen through a function.
use Rattle.std.proofs.Common.{◌≡◌, ℕ, zero, suc, ◌<◌, List, ◌∷◌, All, map, set, get_or, length, Option, Some, None, slice_get, MatchOption, sym, refl, ap, subst, arith, ◌∙◌}
use Rattle.std.proofs.lemmas.List.{map-set}
use Rattle.std.proofs.Math.Seq.{map-set_same}
use Rattle.std.proofs.lemmas.List.Elements.{All-cons}
use Rattle.std.proofs.lemmas.Option.{slice_get-map, slice_get_read, slice_get-get_or, get_or_from_slice_get}
use Rattle.std.specs.Option.{option_map}
use Rattle.steal_pool.specs.declared.view.View.{View}
use Rattle.steal_pool.specs.Victims.{TookOne}

-- x stands in xs at k, as code reads it, and zs looks as xs does
module _ {X Y : Type 0} (f : X → Y) (xs zs : List X) (k : ℕ) (x : X) (is : x ≡ get_or xs k x) (e : map f xs ≡ map f zs) where
  -- nothing is seen of a change that f can't tell
  pub kept : (y : X) → f y ≡ f x → map f (set xs k y) ≡ map f zs
  kept y same = map-set_same f xs k y x (same ∙ ap f is) ∙ e

  pub moved : (y : X) (z : Y) → f y ≡ z → map f (set xs k y) ≡ set (map f zs) k z
  moved y z same = map-set f xs k y ∙ cc (same, e)

  pub found : k < length xs → slice_get (map f zs) k ≡ Some (f x)
  found within = ap (λ l. slice_get l k) (sym e) ∙ (slice_get-map f xs k ∙ ap (option_map f) (slice_get_read xs (length xs) k x refl within is))

  pub seen : (d : X) → k < length xs → k < length zs → f x ≡ f (get_or zs k d)
  seen d within there =
      let a = found within in
      let b : slice_get (map f zs) k ≡ Some (f (get_or zs k d)) = slice_get-map f zs k ∙ ap (option_map f) (slice_get-get_or zs k d there) in
      cc (a, b)

-- what is taken of the others is taken of all
pub after_own : (E : View → Type 0) (r : Option ℕ) (v w : View) (us us' : List View) → w ≡ v → E v → MatchOption r ((us' ≡ us) × All E us) (λ i. TookOne E i us us')
    → MatchOption r ((w ∷ us' ≡ v ∷ us) × All E (v ∷ us)) (λ i. TookOne E i (v ∷ us) (w ∷ us'))
after_own E None v w us us' same here rest = (cc (same, rest.0), All-cons E v us here rest.1)
after_own E (Some i) v w us us' same here (k, u, at, is, passed) = (suc k, u, at, cc (same, is), before)
  where
    before : (j : ℕ) (x : View) → j < suc k → slice_get (v ∷ us) j ≡ Some x → E x
    before zero x low same = subst E (get_or_from_slice_get (v ∷ us) 0 x v same) here
    before (suc j) x low at = passed j x (omega (arith, low)) at
