-- Constants (C99 6.4.4.1): decimal, octal or hexadecimal digits, with the suffix `u` or without.
use Rattle.std.specs.Prelude.{◌≡◌, ◌⊎◌, ◌+◌, ◌*◌, ◌-◌, ◌<◌, ◌≤◌, ℕ, List, [], ◌∷◌, ◌++◌, false, nat_eq, nat_lt, if◌then◌else◌}
use Rattle.c_tokens.specs.declared.token.IntegerType.TheVariants.{SignedInt, UnsignedInt}
use Rattle.c_tokens.specs.declared.token.Literal.{Literal}

-- a byte is a digit of a base, with this value: `0` to `9`, `a` to `f`, `A` to `F`
pub data IsDigitOf (base : ℕ) : ℕ → ℕ → Type 0 where
  figure : {b : ℕ} → 48 ≤ b → b ≤ 57 → b - 48 < base → IsDigitOf base b (b - 48)
  small_letter : {b : ℕ} → 97 ≤ b → b ≤ 102 → b - 87 < base → IsDigitOf base b (b - 87)
  capital_letter : {b : ℕ} → 65 ≤ b → b ≤ 70 → b - 55 < base → IsDigitOf base b (b - 55)

-- digits, after others that spell `n`, spell a number
pub data IsNumber (base : ℕ) : (n : ℕ) → List ℕ → ℕ → Type 0 where
  number_end : {n : ℕ} → IsNumber base n [] n
  number_more : {n b d v : ℕ} {bs : List ℕ} → IsDigitOf base b d → IsNumber base (n * base + d) bs v → IsNumber base n (b ∷ bs) v

-- digits, the greatest value that they may spell without a suffix, and the value that they spell
pub data IsInteger : List ℕ → (greatest : ℕ) → ℕ → Type 0 where
  decimal : {b v : ℕ} {bs : List ℕ} → nat_eq b 48 ≡ false → IsNumber 10 0 (b ∷ bs) v → IsInteger (b ∷ bs) 2147483647 v
  octal : {v : ℕ} {bs : List ℕ} → IsNumber 8 0 bs v → IsInteger (48 ∷ bs) 4294967295 v
  hexadecimal : {x b v : ℕ} {bs : List ℕ} → (x ≡ 120) ⊎ (x ≡ 88) → IsNumber 16 0 (b ∷ bs) v → IsInteger (48 ∷ x ∷ b ∷ bs) 4294967295 v

-- without a suffix an `int`, or where `int` can't hold the value an `unsigned int`; with `u` or `U` an `unsigned int`
pub data IsConstant : List ℕ → Literal → Type 0 where
  without_suffix : {digits : List ℕ} {greatest v : ℕ} → IsInteger digits greatest v → v ≤ greatest →
      IsConstant digits (record { value = v; integer_type = if nat_lt 2147483647 v then UnsignedInt else SignedInt })
  with_suffix : {digits : List ℕ} {greatest v u : ℕ} → IsInteger digits greatest v → v ≤ 4294967295 → (u ≡ 117) ⊎ (u ≡ 85) →
      IsConstant (digits ++ u ∷ []) (record { value = v; integer_type = UnsignedInt })
