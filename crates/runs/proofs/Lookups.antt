-- What a number finds in a slice.
use Rattle.std.proofs.Common.{◌≡◌, ℕ, List, Option, Some, None, true, false, refl, sym, ◌∙◌, ap, subst, length, get_or, nat_lt, Bor, arith}
use Rattle.std.specs.Prelude.{is_some, IfSome}
use Rattle.std.specs.List.{slice_get}
use Rattle.std.proofs.lemmas.Option.{slice_get_past, slice_get_read, same_Some}

pub found : {A : Type 0} (xs : List A) (i : ℕ) (r : Option (Bor A)) (x : Bor A) → is_some r ≡ nat_lt i (length xs)
    → IfSome r (λ y. y.now ≡ get_or xs i y.now) → r ≡ Some x → slice_get xs i ≡ Some x.now
found xs i None x b h e = cc
found xs i (Some y) x b h e =
    let here : nat_lt i (length xs) ≡ true = sym b in
    slice_get_read xs (length xs) i x.now refl (grind (arith, here)) (subst (λ (z : Bor _). z.now ≡ get_or xs i z.now) (same_Some _ _ e) h)

pub past : {A : Type 0} (xs : List A) (i : ℕ) (r : Option (Bor A)) → is_some r ≡ nat_lt i (length xs) → r ≡ None → slice_get xs i ≡ None
past xs i r b e =
    let none : nat_lt i (length xs) ≡ false = sym b ∙ ap (λ (x : Option (Bor _)). is_some x) e in
    slice_get_past xs i (grind (arith, none))
