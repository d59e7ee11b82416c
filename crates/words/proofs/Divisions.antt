-- Where a signed division has a value, the machine divides numbers that fit by one that isn't 0.
use Rattle.std.proofs.Common.{rules, ◌≡◌, ℕ, true, ℤ, ◌<◌, ◌^◌, ◌∙◌, sym, ap, subst}
use Rattle.std.specs.Prelude.{int_div, FitsSigned}
use Rattle.std.specs.Int.{w32, cast_signed, cast_unsigned}
use Rattle.std.proofs.lemmas.Int.{of_z-to_z}
use Rattle.words.specs.declared.sign.Sign.{Sign}
use Rattle.words.specs.declared.sign.Sign.TheVariants.{Signed}
use Rattle.words.specs.Words.{signed}
use Rattle.words.specs.Operators.{has_quotient}

-- the numbers as the machine reads them
abbrev pub Divides : ℤ → ℤ → Type 0
Divides x y = (0 < cast_unsigned w32 y) × FitsSigned w32 (int_div (cast_signed w32 (cast_unsigned w32 x)) (cast_signed w32 (cast_unsigned w32 y)))

-- of words
divides_words : (a b : ℕ) → a < 2 ^ 32 → b < 2 ^ 32 → has_quotient Signed a b ≡ true → (0 < b) × FitsSigned w32 (int_div (signed a) (signed b))
divides_words a b la lb has = search rules

pub divides : (x y : ℤ) (sign : Sign) (a b : ℕ) → a < 2 ^ 32 → b < 2 ^ 32 → x ≡ signed a → y ≡ signed b → sign ≡ Signed → has_quotient sign a b ≡ true →
    Divides x y
divides x y sign a b la lb ea eb signed_is has =
    let d = divides_words a b la lb (subst (λ s. has_quotient s a b ≡ true) signed_is has) in
    let first : cast_unsigned w32 x ≡ a = ap (cast_unsigned w32) ea ∙ of_z-to_z w32 a la in
    let second : cast_unsigned w32 y ≡ b = ap (cast_unsigned w32) eb ∙ of_z-to_z w32 b lb in
    let P : ℕ → Type 0 = λ n. FitsSigned w32 (int_div (cast_signed w32 n) (signed b)) in
    let Q : ℕ → Type 0 = λ n. (0 < n) × FitsSigned w32 (int_div (cast_signed w32 (cast_unsigned w32 x)) (cast_signed w32 n)) in
    subst Q (sym second) (d.0, subst P (sym first) d.1)
