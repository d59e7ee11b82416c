-- Decimal digits at the front of a text, and the constant that they are.
use Rattle.std.proofs.lemmas.Bool.{lt-ltb}
use Rattle.std.proofs.lemmas.Bool.Decides.{nat_tests}
use Rattle.std.proofs.lemmas.List.{drop_more, get_or-take, take-take, length-take-le}
use Rattle.std.proofs.Common.{◌≡◌, ◌<◌, ◌≤◌, ◌+◌, ◌*◌, ◌-◌, ℕ, suc, List, [], ◌∷◌, length, drop, take, get_or, Bool, true, false, Some}
use Rattle.std.proofs.Common.{ap, ◌∙◌, arith, if◌then◌else◌, nat_eq, nat_le, nat_lt}
use Rattle.c_tokens.specs.declared.lexer.Lexeme.TheVariants.{Numeral}
use Rattle.c_tokens.specs.declared.token.IntegerType.TheVariants.{SignedInt, UnsignedInt}
use Rattle.c_tokens.specs.Lexing.{is_digit, is_exponent, goes_on}
use Rattle.c_tokens.specs.Digits.{digits_of, plain_of, is_suffix, is_octal_or_hexadecimal, last_or}
use Rattle.c_tokens.specs.Digits.{constant_lexeme}
use Rattle.c_tokens.specs.Fronts.{run_length, SpellsSoFar}
use Rattle.c_tokens.proofs.Finding.{digit-goes}

digit-no-exponent : (b : ℕ) → is_digit b ≡ true → is_exponent b ≡ false
digit-no-exponent b h = grind (arith, nat_tests)

digit-no-suffix : (b : ℕ) → is_digit b ≡ true → is_suffix b ≡ false
digit-no-suffix b h = grind (arith, nat_tests)

pub digit-low : (b : ℕ) → is_digit b ≡ true → b - 48 < 10
digit-low b h = grind (arith, nat_tests)

suffix-goes : (b : ℕ) → is_suffix b ≡ true → goes_on false b ≡ true
suffix-goes b h = grind (arith, nat_tests)

suffix-no-exponent : (b : ℕ) → is_suffix b ≡ true → is_exponent b ≡ false
suffix-no-exponent b h = grind (arith, nat_tests)

pub spells-more : (text : List ℕ) (n v : ℕ) → n < length text → is_digit (get_or text n 0) ≡ true → SpellsSoFar text n v
    → SpellsSoFar text (n + 1) (v * 10 + (get_or text n 0 - 48))
spells-more text n v l h s =
    let b = get_or text n 0 in
    let more = drop (n + 1) text in
    let e : drop n text ≡ b ∷ more = drop_more text n 0 l in
    let a : run_length false (drop n text) ≡ suc (run_length false more) = rw (e, digit-goes b h, digit-no-exponent b h) in
    let on : (m : ℕ) → (n + 1) + m ≡ n + suc m = λ m. omega arith in
    record {
      within = omega (arith, l);
      run = omega (arith, a, s.run);
      number = λ m. rw (on m, s.number (suc m), e, h, lt-ltb (b - 48) 10 (digit-low b h));
      last = b;
      plain = digit-no-suffix b h;
      ends = λ m. rw (on m, s.ends (suc m), e);
    }

pub no-zero : (b : ℕ) → (b ≡ 48 → ⊥) → nat_eq b 48 ≡ false
no-zero b h = grind (arith, nat_tests, h)

plain-decimal : (xs : List ℕ) → 0 < length xs → nat_eq (get_or xs 0 0) 48 ≡ false → plain_of xs ≡ digits_of 10 0 xs
plain-decimal [] l h = absurd (omega (arith, l))
plain-decimal (b ∷ bs) l h = rw h

below-greatest : (x : Bool) (v : ℕ) → v ≤ 2147483647 → nat_le v (if x then 4294967295 else 2147483647) ≡ true
below-greatest true v h = grind (arith, nat_tests, h)
below-greatest false v h = grind (arith, nat_tests, h)

-- digits that spell a value, where nothing but perhaps a suffix goes on behind them
module _ (text : List ℕ) (n v : ℕ) (some : 0 < n) (first : nat_eq (get_or text 0 0) 48 ≡ false) (low : v ≤ 2147483647) (s : SpellsSoFar text n v) where
  abbrev digits : List ℕ
  digits = take n text

  length-digits : length digits ≡ n
  length-digits = length-take-le n text s.within

  value-of : plain_of digits ≡ Some v
  value-of =
      let e : n ≡ n + 0 = omega arith in
      let first-of : nat_eq (get_or digits 0 0) 48 ≡ false = rw (get_or-take n text 0 0 some) first in
      plain-decimal digits (omega (arith, length-digits, some)) first-of ∙ ap (λ (k : ℕ). digits_of 10 0 (take k text)) e ∙ s.number 0

  pub plain-constant : run_length false (drop n text) ≡ 0
      → Numeral (record { value = v; integer_type = SignedInt }) n ≡ constant_lexeme (take (run_length false text) text)
  plain-constant z =
      let k : run_length false text ≡ n = omega (arith, s.run, z) in
      let e : n ≡ n + 0 = omega arith in
      let end : is_suffix (last_or 0 digits) ≡ false = ap (λ (k : ℕ). is_suffix (last_or 0 (take k text))) e ∙ ap is_suffix (s.ends 0) ∙ s.plain in
      let big : nat_lt 2147483647 v ≡ false = grind (arith, nat_tests, low) in
      rw (k, end, value-of, below-greatest (is_octal_or_hexadecimal digits) v low, end, big, length-digits)

  pub suffixed-constant : n < length text → is_suffix (get_or text n 0) ≡ true → run_length false (drop (n + 1) text) ≡ 0
      → Numeral (record { value = v; integer_type = UnsignedInt }) (n + 1) ≡ constant_lexeme (take (run_length false text) text)
  suffixed-constant l u z =
      let run = take (n + 1) text in
      let e : drop n text ≡ get_or text n 0 ∷ drop (n + 1) text = drop_more text n 0 l in
      let one : run_length false (drop n text) ≡ suc (run_length false (drop (n + 1) text)) = rw (e, suffix-goes _ u, suffix-no-exponent _ u) in
      let k : run_length false text ≡ n + 1 = omega (arith, s.run, one, z) in
      let suffix : is_suffix (last_or 0 run) ≡ true = ap is_suffix (s.ends 1 ∙ ap (λ (x : List ℕ). last_or s.last (take 1 x)) e) ∙ u in
      let size : length run ≡ n + 1 = length-take-le (n + 1) text (omega (arith, l)) in
      let cut : length run - 1 ≡ n = omega (arith, size) in
      let whole : take (length run - 1) run ≡ digits = ap (λ (x : ℕ). take x run) cut ∙ take-take n (n + 1) text (omega arith) in
      rw (k, suffix, whole, value-of, below-greatest true v low, suffix, size)
