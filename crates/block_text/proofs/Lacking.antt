-- Bytes that a number's text lacks.
use Rattle.std.proofs.Common.{◌≡◌, ℕ, ℤ, pos, negsuc, ◌<◌, ◌^◌, List, [], ◌∷◌, true, false, ◌==◌, refl, rules, arith, decimal, FitsSigned, suc, Option, Some}
use Rattle.std.specs.Fmt.{signed_decimal}
use Rattle.std.specs.Int.{w16, IsInRange}
use Rattle.std.specs.Str.{all_ascii_digits}
use Rattle.std.proofs.lemmas.Fmt.{digits_decimal}
use Rattle.std.proofs.lemmas.Str.Parse.{IsNumeralModel, IsDigitsTest, numerals_by_value}
use Rattle.std.specs.Str.Parse.{digits_value}
use Rattle.block_text.specs.Lines.{lacks}
use Rattle.mips_isa.specs.Texts.{register_text}

digits_test : IsDigitsTest (λ ds. all_ascii_digits ds ≡ true)
digits_test = search rules

own : IsNumeralModel (λ ds. all_ascii_digits ds ≡ true) (digits_value 10)
own = numerals_by_value _ digits_test

other : (x c : ℕ) → IsInRange 48 57 x → ¬ (IsInRange 48 57 c) → (x == c) ≡ false
other x c inside out = grind arith

lacks_digits : (c : ℕ) → ¬ (IsInRange 48 57 c) → (ds : List ℕ) → all_ascii_digits ds ≡ true → lacks c ds ≡ true
lacks_digits c out [] e = refl
lacks_digits c out (x ∷ xs) e =
    let parts = digits_test.parts x xs e in
    let ne : (x == c) ≡ false = other x c parts.0 out in
    rw ne (lacks_digits c out xs parts.1)

pub decimal_lacks : (c n : ℕ) → ¬ (IsInRange 48 57 c) → n < 2 ^ 32 → lacks c (decimal n) ≡ true
decimal_lacks c n out lt = lacks_digits c out (decimal n) (digits_decimal own n (omega arith))

pub comma_register : (r : ℕ) → r < 32 → lacks 44 (register_text r) ≡ true
comma_register r lt = decimal_lacks 44 r (λ h. omega arith) (omega arith)

pub bracket_signed : (z : ℤ) → FitsSigned w16 z → lacks 40 (signed_decimal z) ≡ true
bracket_signed (pos n) fits = decimal_lacks 40 n (λ h. omega arith) (search arith)
bracket_signed (negsuc n) fits = decimal_lacks 40 (suc n) (λ h. omega arith) (search arith)

pub comma_block : (n : ℕ) → n < 2 ^ 20 → lacks 44 (decimal n) ≡ true
comma_block n lt = decimal_lacks 44 n (λ h. omega arith) (omega arith)

pub close_register : (r : ℕ) → r < 32 → lacks 41 (register_text r) ≡ true
close_register r lt = decimal_lacks 41 r (λ h. omega arith) (omega arith)

-- a register and another value that a text spells: the register's own text lacks a comma
pub read_two : {C : Type 0} {fits : C → Type 0} {spelled : ℕ → C → Type 0} {o : Option (ℕ × C)}
    → ((r : ℕ) (x : C) → lacks 44 (register_text r) ≡ true → r < 32 → fits x → spelled r x → o ≡ Some (r, x))
    → (r : ℕ) (x : C) → (r < 32) × fits x → spelled r x → o ≡ Some (r, x)
read_two only r x fit = only r x (comma_register r fit.0) fit.0 fit.1

-- the same of two registers and a third value
pub read_three : {C : Type 0} {fits : C → Type 0} {spelled : ℕ → ℕ → C → Type 0} {o : Option (ℕ × ℕ × C)}
    → ((r s : ℕ) (x : C) → lacks 44 (register_text r) ≡ true → lacks 44 (register_text s) ≡ true → r < 32 → s < 32 → fits x → spelled r s x
    → o ≡ Some (r, s, x))
    → (r s : ℕ) (x : C) → (r < 32) × (s < 32) × fits x → spelled r s x → o ≡ Some (r, s, x)
read_three only r s x fit = only r s x (comma_register r fit.0) (comma_register s fit.1) fit.0 fit.1 fit.2
