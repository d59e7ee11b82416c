-- What the code computes of a run of digits is the constant that it is.
use Rattle.std.proofs.lemmas.Bool.{eqb-true, leb-true, le-leb, ltb-true, lt-ltb}
use Rattle.std.proofs.lemmas.Bool.Decides.{nat_tests}
use Rattle.std.proofs.Math.Seq.{take-append_seam}
use Rattle.std.proofs.lemmas.Option.{none-some, same_Some}
use Rattle.std.proofs.Common.{◌≡◌, ◌⊎◌, inl, inr, ◌+◌, ◌*◌, ◌-◌, ◌<◌, ◌≤◌, ℕ, List, [], ◌∷◌, ◌++◌, length, take, Bool, true, false, Option, Some, None, refl}
use Rattle.std.proofs.Common.{ap, ◌∙◌, arith, if◌then◌else◌, nat_eq, nat_le, nat_lt, length-append}
use Rattle.c_tokens.specs.declared.lexer.Lexeme.TheVariants.{Numeral, NoConstant}
use Rattle.c_tokens.specs.declared.token.Literal.{Literal}
use Rattle.c_tokens.specs.Digits.{digit_of, digits_of, is_x, after_zero, plain_of, is_suffix, is_octal_or_hexadecimal, last_or, constant_type, up_to, valued}
use Rattle.c_tokens.specs.Digits.{constant_lexeme}
use Rattle.c_tokens.specs.Constants.{IsDigitOf, figure, small_letter, capital_letter, IsNumber, number_end, number_more, IsInteger, decimal, octal, hexadecimal}
use Rattle.c_tokens.specs.Constants.{IsConstant, without_suffix, with_suffix}

-- digits by their values
digit-value : {base b d : ℕ} → IsDigitOf base b d → (digit_of b ≡ d) × (d < base)
digit-value (figure l h k) = (grind (arith, nat_tests), k)
digit-value (small_letter l h k) = (grind (arith, nat_tests), k)
digit-value (capital_letter l h k) = (grind (arith, nat_tests), k)

digit-ranges : (b : ℕ) → digit_of b ≤ 98 → ((48 ≤ b) × (b ≤ 57)) ⊎ (((97 ≤ b) × (b ≤ 102)) ⊎ ((65 ≤ b) × (b ≤ 70)))
digit-ranges b h = grind (arith, nat_tests)

value-digit : (base b : ℕ) → base ≤ 16 → digit_of b < base → IsDigitOf base b (digit_of b)
value-digit base b few lt = by (digit-ranges b (omega (arith, few, lt))) lt
  where
    by : ((48 ≤ b) × (b ≤ 57)) ⊎ (((97 ≤ b) × (b ≤ 102)) ⊎ ((65 ≤ b) × (b ≤ 70))) → digit_of b < base → IsDigitOf base b (digit_of b)
    by (inl (l, h)) lt = let is : digit_of b ≡ b - 48 = grind (arith, nat_tests) in rw is (figure l h (rw is at lt))
    by (inr (inl (l, h))) lt = let is : digit_of b ≡ b - 87 = grind (arith, nat_tests) in rw is (small_letter l h (rw is at lt))
    by (inr (inr (l, h))) lt = let is : digit_of b ≡ b - 55 = grind (arith, nat_tests) in rw is (capital_letter l h (rw is at lt))

number-value : {base n v : ℕ} {bs : List ℕ} → IsNumber base n bs v → digits_of base n bs ≡ Some v
number-value number_end = refl
number-value {base = base} (number_more {d = d} digit more) =
    let e = digit-value digit in
    rw (e.0, lt-ltb d base e.1) (number-value more)

value-number : (base n v : ℕ) (bs : List ℕ) → base ≤ 16 → digits_of base n bs ≡ Some v → IsNumber base n bs v
value-number base n v [] few h = rw (same_Some n v h) number_end
value-number base n v (b ∷ bs) few h = by (λ k. value-number base (n * base + digit_of b) v bs few k) (nat_lt (digit_of b) base) refl h
  where
    by : (digits_of base (n * base + digit_of b) bs ≡ Some v → IsNumber base (n * base + digit_of b) bs v) → (x : Bool) → nat_lt (digit_of b) base ≡ x
        → (if x then digits_of base (n * base + digit_of b) bs else None) ≡ Some v → IsNumber base n (b ∷ bs) v
    by more true e h = number_more (value-digit base b few (ltb-true _ base e)) (more h)
    by more false e h = absurd (none-some v h)

-- no digit is a suffix
digit-not-suffix : {base b d : ℕ} → IsDigitOf base b d → is_suffix b ≡ false
digit-not-suffix (figure l h k) = grind (arith, nat_tests)
digit-not-suffix (small_letter l h k) = grind (arith, nat_tests)
digit-not-suffix (capital_letter l h k) = grind (arith, nat_tests)

last-not-suffix : {base n v : ℕ} {bs : List ℕ} (c : ℕ) → is_suffix c ≡ false → IsNumber base n bs v → is_suffix (last_or c bs) ≡ false
last-not-suffix c h number_end = h
last-not-suffix c h (number_more {b = b} digit more) = last-not-suffix b (digit-not-suffix digit) more

integer-not-suffix : {digits : List ℕ} {greatest v : ℕ} → IsInteger digits greatest v → is_suffix (last_or 0 digits) ≡ false
integer-not-suffix (decimal h n) = last-not-suffix 0 refl n
integer-not-suffix (octal n) = last-not-suffix 48 refl n
integer-not-suffix (hexadecimal w (number_more {b = b} digit more)) = last-not-suffix b (digit-not-suffix digit) more

-- the greatest value without a suffix
abbrev greatest_plain : List ℕ → ℕ
greatest_plain digits = if is_octal_or_hexadecimal digits then 4294967295 else 2147483647

octal-first : {n b v : ℕ} {bs : List ℕ} → IsNumber 8 n (b ∷ bs) v → is_x b ≡ false
octal-first (number_more (figure l h k) more) = grind (arith, nat_tests)
octal-first (number_more (small_letter l h k) more) = absurd (omega (arith, l, k))
octal-first (number_more (capital_letter l h k) more) = absurd (omega (arith, l, k))

integer-value : {digits : List ℕ} {greatest v : ℕ} → IsInteger digits greatest v → (plain_of digits ≡ Some v) × (greatest_plain digits ≡ greatest)
integer-value (decimal h n) = (rw h (number-value n), rw h)
integer-value (octal {bs = []} n) = (number-value n, refl)
integer-value (octal {bs = c ∷ []} n) = (number-value n, refl)
integer-value (octal {bs = c ∷ d ∷ ds} n) = (rw (octal-first n) (number-value n), refl)
integer-value (hexadecimal {x = x} w n) = let e : is_x x ≡ true = grind (arith, nat_tests, w) in (rw e (number-value n), refl)

zero-integer : (bs : List ℕ) (v : ℕ) → after_zero bs ≡ Some v → IsInteger (48 ∷ bs) 4294967295 v
zero-integer [] v h = octal (value-number 8 0 v [] (omega arith) h)
zero-integer (c ∷ []) v h = octal (value-number 8 0 v (c ∷ []) (omega arith) h)
zero-integer (c ∷ d ∷ ds) v h = by (is_x c) refl h
  where
    by : (x : Bool) → is_x c ≡ x → (if x then digits_of 16 0 (d ∷ ds) else digits_of 8 0 (c ∷ d ∷ ds)) ≡ Some v → IsInteger (48 ∷ c ∷ d ∷ ds) 4294967295 v
    by true e h = hexadecimal (grind (arith, nat_tests, e)) (value-number 16 0 v (d ∷ ds) (omega arith) h)
    by false e h = octal (value-number 8 0 v (c ∷ d ∷ ds) (omega arith) h)

value-integer : (digits : List ℕ) (v : ℕ) → plain_of digits ≡ Some v → IsInteger digits (greatest_plain digits) v
value-integer [] v h = absurd (none-some v h)
value-integer (b ∷ bs) v h = by (nat_eq b 48) refl h
  where
    by : (x : Bool) → nat_eq b 48 ≡ x → (if x then after_zero bs else digits_of 10 0 (b ∷ bs)) ≡ Some v
        → IsInteger (b ∷ bs) (if x then 4294967295 else 2147483647) v
    by true e h = rw (eqb-true b 48 e) (zero-integer bs v h)
    by false e h = decimal e (value-number 10 0 v (b ∷ bs) (omega arith) h)

-- a suffix behind digits
last-behind : (c u : ℕ) (digits : List ℕ) → last_or c (digits ++ u ∷ []) ≡ u
last-behind c u [] = refl
last-behind c u (b ∷ digits) = last-behind b u digits

without-last : (u : ℕ) (digits : List ℕ) → take (length (digits ++ u ∷ []) - 1) (digits ++ u ∷ []) ≡ digits
without-last u digits =
    let e : length (digits ++ u ∷ []) - 1 ≡ length digits = omega (arith, length-append digits (u ∷ [])) in
    rw e (take-append_seam digits (u ∷ []))

last-apart : (b : ℕ) (run : List ℕ) → (digits : List ℕ) × ((b ∷ run) ≡ digits ++ last_or b run ∷ [])
last-apart b [] = ([], refl)
last-apart b (c ∷ run) = let r = last-apart c run in (b ∷ r.0, ap (λ (x : List ℕ). b ∷ x) r.1)

-- a constant is found
pub constant-of : {run : List ℕ} {c : Literal} → IsConstant run c → constant_lexeme run ≡ Numeral c (length run)
constant-of (without_suffix {greatest = greatest} {v = v} integer le) =
    let plain = integer-not-suffix integer in
    let value = integer-value integer in
    rw (plain, value.0, value.1, le-leb v greatest le, plain)
constant-of (with_suffix {digits = digits} {v = v} {u = u} integer le suffix) =
    let last : is_suffix (last_or 0 (digits ++ u ∷ [])) ≡ true = rw (last-behind 0 u digits) (grind (arith, nat_tests, suffix)) in
    rw (last, without-last u digits, (integer-value integer).0, le-leb v 4294967295 le, last)

-- what is found is a constant
pub data Known (run : List ℕ) : Type 0 where
  is_constant : (c : Literal) → constant_lexeme run ≡ Numeral c (length run) → IsConstant run c → Known run
  is_none : constant_lexeme run ≡ NoConstant → Known run

decided : (run digits : List ℕ) (limit : ℕ) → constant_lexeme run ≡ valued run (up_to limit (plain_of digits))
    → ((v : ℕ) → plain_of digits ≡ Some v → v ≤ limit → IsConstant run (record { value = v; integer_type = constant_type run v })) → Known run
decided run digits limit e make = by (plain_of digits) refl
  where
    at : (v : ℕ) → plain_of digits ≡ Some v → (x : Bool) → nat_le v limit ≡ x → Known run
    at v g true h = is_constant (record { value = v; integer_type = constant_type run v }) (e ∙ rw (g, h)) (make v g (leb-true v limit h))
    at v g false h = is_none (e ∙ rw (g, h))

    by : (x : Option ℕ) → plain_of digits ≡ x → Known run
    by None g = is_none (e ∙ rw g)
    by (Some v) g = at v g (nat_le v limit) refl

pub known : (b : ℕ) (bs : List ℕ) → Known (b ∷ bs)
known b bs = by (is_suffix (last_or b bs)) refl
  where
    by : (x : Bool) → is_suffix (last_or b bs) ≡ x → Known (b ∷ bs)
    by false plain = decided (b ∷ bs) (b ∷ bs) (greatest_plain (b ∷ bs)) (rw plain) (λ v g le. rw plain (without_suffix (value-integer (b ∷ bs) v g) le))
    by true last =
        let r = last-apart b bs in
        let cut = ap (λ (x : List ℕ). take (length x - 1) x) r.1 ∙ without-last (last_or b bs) r.0 in
        decided (b ∷ bs) r.0 4294967295 (rw (last, cut)) (λ v g le.
        rw (last, r.1) (with_suffix {u = last_or b bs} (value-integer r.0 v g) le (grind (arith, nat_tests, last))))
