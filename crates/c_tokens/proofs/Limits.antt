-- Constants by their parts.
use Rattle.std.proofs.Common.{◌≡◌, ◌<◌, ◌-◌, ℕ, suc, List, [], ◌∷◌, length, get_or, Option, refl, ap, ◌∙◌, arith}
use Rattle.c_tokens.specs.Digits.{up_to, valued, last_or, constant_lexeme, greatest_of, plain_of, digits_in}

pub constant-is : (run digits : List ℕ) (limit : ℕ) (x : Option ℕ) → x ≡ up_to limit (plain_of digits) → limit ≡ greatest_of run → digits ≡ digits_in run
    → valued run x ≡ constant_lexeme run
constant-is run digits limit x h e f =
    ap (valued run) (h ∙ ap (λ (n : ℕ). up_to n (plain_of digits)) e ∙ ap (λ (xs : List ℕ). up_to (greatest_of run) (plain_of xs)) f)

pub last-at : (xs : List ℕ) (d : ℕ) → 0 < length xs → get_or xs (length xs - 1) 0 ≡ last_or d xs
last-at [] d h = absurd (omega (arith, h))
last-at (x ∷ []) d h = refl
last-at (x ∷ y ∷ xs) d h =
    let a = last-at (y ∷ xs) x (omega arith) in
    let e : length (x ∷ y ∷ xs) - 1 ≡ suc (length (y ∷ xs) - 1) = omega arith in
    ap (λ (k : ℕ). get_or (x ∷ y ∷ xs) k 0) e ∙ a
