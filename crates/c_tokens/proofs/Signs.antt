-- The longest operator, by what its first byte alone spells, then its first two and three.
use Rattle.std.proofs.lemmas.Bool.Decides.{nat_tests}
use Rattle.std.proofs.Common.{arith, sym, ap, subst, ◌∙◌, ◌≡◌, ◌∷◌, ℕ, List, [], true, false, Option, Some, None, is_some}
use Rattle.c_tokens.specs.declared.token.Mark.{Mark}
use Rattle.c_tokens.specs.Lexing.{entry_in, signs}
use Rattle.c_tokens.specs.Fronts.{mark_of, spelled_or, sign_of}

-- what begins with a byte that has no mark has none
no-pair : (a b : ℕ) → mark_of (entry_in signs (a ∷ [])) ≡ None → mark_of (entry_in signs (a ∷ b ∷ [])) ≡ None
no-pair a b h = grind (arith, nat_tests)

no-triple : (a b c : ℕ) → mark_of (entry_in signs (a ∷ b ∷ c ∷ [])) ≡ None
no-triple a b c = grind (arith, nat_tests)

unmarked : (x y z : Option (Option Mark)) (n k : ℕ) → mark_of x ≡ None → mark_of y ≡ None → mark_of z ≡ None
    → spelled_or (spelled_or (spelled_or None 1 x) n y) k z ≡ None
unmarked x y z n k h i j = grind (arith, h, i, j)

pub sign-none : (a : ℕ) (bs : List ℕ) → mark_of (entry_in signs (a ∷ [])) ≡ None → sign_of (a ∷ bs) ≡ None
sign-none a [] h = let x = entry_in signs (a ∷ []) in unmarked x x x 1 1 h h h
sign-none a (b ∷ []) h =
    let y = entry_in signs (a ∷ b ∷ []) in
    unmarked (entry_in signs (a ∷ [])) y y 2 2 h (no-pair a b h) (no-pair a b h)
sign-none a (b ∷ c ∷ cs) h =
    unmarked (entry_in signs (a ∷ [])) (entry_in signs (a ∷ b ∷ [])) (entry_in signs (a ∷ b ∷ c ∷ [])) 2 3 h (no-pair a b h) (no-triple a b c)

-- three bytes that are an operator begin with two that are, or with one that has no mark
triple-pair : (a b c : ℕ) (m : Mark) → mark_of (entry_in signs (a ∷ [])) ≡ Some m → entry_in signs (a ∷ b ∷ []) ≡ None
    → entry_in signs (a ∷ b ∷ c ∷ []) ≡ None
triple-pair a b c m h k = grind (arith, nat_tests)

pub sign-one : (a b : ℕ) (bs : List ℕ) (m : Mark) → mark_of (entry_in signs (a ∷ [])) ≡ Some m → entry_in signs (a ∷ b ∷ []) ≡ None
    → sign_of (a ∷ b ∷ bs) ≡ Some (m, 1)
sign-one a b [] m h k = grind (arith, h, k)
sign-one a b (c ∷ cs) m h k = let t = triple-pair a b c m h k in grind (arith, h, k, t)

pub sign-three : (a b c : ℕ) (cs : List ℕ) → is_some (entry_in signs (a ∷ b ∷ c ∷ [])) ≡ true → sign_of (a ∷ b ∷ c ∷ cs) ≡ None
sign-three a b c cs h = let t = no-triple a b c in grind (arith, h, t)

-- two bytes that are spelled are the longest, if three are none
two-spelled : (other : Option (Mark × ℕ)) (y z : Option (Option Mark)) (p : Option Mark) → y ≡ Some p → is_some z ≡ false
    → spelled_or (spelled_or other 2 y) 3 z ≡ spelled_or None 2 (Some p)
two-spelled other y z p h k = grind (arith, h, k)

two-alone : (other : Option (Mark × ℕ)) (y : Option (Option Mark)) (p : Option Mark) → y ≡ Some p
    → spelled_or (spelled_or other 2 y) 2 y ≡ spelled_or None 2 (Some p)
two-alone other y p h = grind (arith, h)

pub sign-two : {text rest more : List ℕ} (a b : ℕ) (p q : Option Mark) → text ≡ a ∷ rest → rest ≡ b ∷ more → more ≡ [] → entry_in signs (a ∷ b ∷ []) ≡ Some p → p ≡ q
    → spelled_or None 2 (Some q) ≡ sign_of text
sign-two a b p q is then ends h e =
    sym (subst (λ l. sign_of l ≡ spelled_or None 2 (Some q)) (sym (is ∙ ap (λ l. a ∷ l) (then ∙ ap (λ l. b ∷ l) ends)))
    (two-alone (spelled_or None 1 (entry_in signs (a ∷ []))) (entry_in signs (a ∷ b ∷ [])) q (h ∙ ap Some e)))

pub sign-pair : {text rest more after : List ℕ} (a b c : ℕ) (p q : Option Mark) → text ≡ a ∷ rest → rest ≡ b ∷ more → more ≡ c ∷ after
    → entry_in signs (a ∷ b ∷ []) ≡ Some p → is_some (entry_in signs (a ∷ b ∷ c ∷ [])) ≡ false → p ≡ q → spelled_or None 2 (Some q) ≡ sign_of text
sign-pair a b c p q is then more h k e =
    sym (subst (λ l. sign_of l ≡ spelled_or None 2 (Some q)) (sym (is ∙ ap (λ l. a ∷ l) (then ∙ ap (λ l. b ∷ l) more)))
    (two-spelled (spelled_or None 1 (entry_in signs (a ∷ []))) (entry_in signs (a ∷ b ∷ [])) (entry_in signs (a ∷ b ∷ c ∷ [])) q (h ∙ ap Some e) k))
