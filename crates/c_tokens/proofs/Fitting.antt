-- What stands at the front of some bytes is no longer than they are.
use Rattle.std.proofs.lemmas.Bool.Decides.{nat_tests}
use Rattle.std.proofs.Common.{◌+◌, ◌*◌, ◌≡◌, ◌<◌, ◌≤◌, ℕ, suc, zero, List, [], ◌∷◌, Bool, true, false, Option, None, refl, sym, ap, ◌∙◌}
use Rattle.std.proofs.Common.{arith, if◌then◌else◌, nat_lt}
use Rattle.c_tokens.specs.Digits.{digit_of, digits_of, up_to}

over-if : (limit : ℕ) (r : Option ℕ) (x : Bool) → up_to limit r ≡ None → up_to limit (if x then r else None) ≡ None
over-if limit r true h = h
over-if limit r false h = refl

pub over-limit : (limit base n : ℕ) (bs : List ℕ) → 0 < base → limit < n → up_to limit (digits_of base n bs) ≡ None
over-limit limit zero n bs z h = absurd (omega (arith, z))
over-limit limit (suc m) n [] z h = grind (arith, nat_tests, h)
over-limit limit (suc m) n (b ∷ bs) z h =
    let grows : n ≤ n * suc m = grind arith in
    over-if limit _ (nat_lt (digit_of b) (suc m)) (over-limit limit (suc m) (n * suc m + digit_of b) bs z (omega (arith, grows, h)))

pub over-step : (limit base n d b : ℕ) (rest bs : List ℕ) (x : Option ℕ) → rest ≡ b ∷ bs → d ≡ digit_of b → 0 < base → limit < n * base + d
    → up_to limit (digits_of base n rest) ≡ x → None ≡ x
over-step limit base n d b rest bs x e q z h p =
    sym (over-if limit _ (nat_lt (digit_of b) base) (over-limit limit base (n * base + digit_of b) bs z (rw q at h)))
    ∙ sym (ap (λ (y : List ℕ). up_to limit (digits_of base n y)) e) ∙ p
