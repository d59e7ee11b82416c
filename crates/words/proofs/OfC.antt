-- Where C gives two words a value, the machine's operator gives the same.
use Rattle.std.proofs.Common.{◌≡◌, ℕ, ◌-◌, ◌*◌, ◌%◌, ◌^◌, ◌<◌, Bool, true, false, cond, ◌&&◌, nat_lt, ℤ, pos}
use Rattle.std.proofs.Common.{negsuc, Option, Some, None, refl, sym, ap, ◌∙◌, arith}
use Rattle.std.specs.Prelude.{neg_ℤ, ◌+ℤ◌, ◌-ℤ◌, ◌*ℤ◌}
use Rattle.std.specs.Int.{w64, cast_unsigned}
use Rattle.std.proofs.lemmas.Int.{ints}
use Rattle.std.proofs.lemmas.Option.{same_Some, none-some}
use Rattle.std.specs.Int.Bits.{or_zero_r}
use Rattle.words.specs.declared.sign.Sign.{Sign}
use Rattle.words.specs.declared.sign.Sign.TheVariants.{Signed, Unsigned}
use Rattle.words.specs.declared.operator.Operator.TheVariants.{Addu, Subu, Nor, Sll}
use Rattle.words.specs.Words.{wrap, signed, word_of_int}
use Rattle.words.specs.Operators.{op_value, or_zero, quotient_of, remainder_of}
use Rattle.words.specs.C.{fits_int, as_int, sum_of, difference_of, times_of, negation_of, left_shift_of, right_shift_of}
use Rattle.words.specs.Laws.{product_operator, quotient_operator, remainder_operator, right_shift_operator}

-- where there is a value, the total form gives it
of_some : (o : Option ℕ) (v : ℕ) → o ≡ Some v → v ≡ or_zero o
of_some None v e = absurd (none-some v e)
of_some (Some w) v e = sym (same_Some w v e)

-- what the test of a value's range says
pub int_fits : (z : ℤ) (v : ℕ) → as_int z ≡ Some v → (v ≡ word_of_int z) × (fits_int z ≡ true)
int_fits z v e = go (fits_int z) e
  where
    go : (b : Bool) → cond b (Some (word_of_int z)) None ≡ Some v → (v ≡ word_of_int z) × (b ≡ true)
    go true h = (sym (same_Some (word_of_int z) v h), refl)
    go false h = absurd (none-some v h)

pub sum_agrees : (s : Sign) (a b v : ℕ) → a < 2 ^ 32 → b < 2 ^ 32 → sum_of s a b ≡ Some v → v ≡ op_value Addu a b
unfolding op_value
sum_agrees Signed a b v la lb e = let f = int_fits (signed a +ℤ signed b) v e in grind (arith, ints)
sum_agrees Unsigned a b v la lb e = sym (same_Some _ v e)

pub difference_agrees : (s : Sign) (a b v : ℕ) → a < 2 ^ 32 → b < 2 ^ 32 → difference_of s a b ≡ Some v → v ≡ op_value Subu a b
unfolding op_value
difference_agrees Signed a b v la lb e = let f = int_fits (signed a -ℤ signed b) v e in grind (arith, ints)
difference_agrees Unsigned a b v la lb e = sym (same_Some _ v e)

pub negation_agrees : (s : Sign) (a v : ℕ) → a < 2 ^ 32 → negation_of s a ≡ Some v → v ≡ op_value Subu 0 a
unfolding op_value
negation_agrees Signed a v la e = let f = int_fits (neg_ℤ (signed a)) v e in grind (arith, ints)
negation_agrees Unsigned a v la e = sym (same_Some _ v e)

-- the lower half of 64 bits is the word of a number that fits 32
low_word : (z : ℤ) → fits_int z ≡ true → word_of_int z ≡ wrap (cast_unsigned w64 z)
low_word (pos n) f = grind (arith, ints)
low_word (negsuc n) f = grind (arith, ints)

pub product_agrees : (s : Sign) (a b v : ℕ) → a < 2 ^ 32 → b < 2 ^ 32 → times_of s a b ≡ Some v → v ≡ op_value (product_operator s) a b
unfolding op_value
product_agrees Signed a b v la lb e = let f = int_fits (signed a *ℤ signed b) v e in f.0 ∙ low_word (signed a *ℤ signed b) f.1
product_agrees Unsigned a b v la lb e = sym (same_Some _ v e)

pub quotient_agrees : (s : Sign) (a b v : ℕ) → quotient_of s a b ≡ Some v → v ≡ op_value (quotient_operator s) a b
unfolding op_value
quotient_agrees Signed a b v e = of_some (quotient_of Signed a b) v e
quotient_agrees Unsigned a b v e = of_some (quotient_of Unsigned a b) v e

pub remainder_agrees : (s : Sign) (a b v : ℕ) → remainder_of s a b ≡ Some v → v ≡ op_value (remainder_operator s) a b
unfolding op_value
remainder_agrees Signed a b v e = of_some (remainder_of Signed a b) v e
remainder_agrees Unsigned a b v e = of_some (remainder_of Unsigned a b) v e

-- a count below 32 is its own low five bits
low_bits : (n : ℕ) → nat_lt n 32 ≡ true → n % 32 ≡ n
low_bits n t = grind arith

some_if : (b : Bool) (w v : ℕ) → cond b (Some w) None ≡ Some v → (v ≡ w) × (b ≡ true)
some_if true w v e = (sym (same_Some w v e), refl)
some_if false w v e = absurd (none-some v e)

both_true : (a b : Bool) → (a && b) ≡ true → (a ≡ true) × (b ≡ true)
both_true true b e = (refl, e)
both_true false b e = absurd (let no = e in cc)

small_word : (m : ℕ) → nat_lt m (2 ^ 31) ≡ true → m ≡ wrap m
small_word m t = grind arith

pub left_shift_agrees : (s : Sign) (a n v : ℕ) → left_shift_of s a n ≡ Some v → v ≡ op_value Sll a n
unfolding op_value
left_shift_agrees Signed a n v e =
    let value = some_if (nat_lt n 32 && nat_lt (a * 2 ^ n) (2 ^ 31)) (a * 2 ^ n) v e in
    let tests = both_true (nat_lt n 32) (nat_lt (a * 2 ^ n) (2 ^ 31)) value.1 in
    value.0 ∙ small_word (a * 2 ^ n) tests.1 ∙ ap (λ k. wrap (a * 2 ^ k)) (sym (low_bits n tests.0))
left_shift_agrees Unsigned a n v e =
    let value = some_if (nat_lt n 32) (wrap (a * 2 ^ n)) v e in
    value.0 ∙ ap (λ k. wrap (a * 2 ^ k)) (sym (low_bits n value.1))

pub right_shift_agrees : (s : Sign) (a n v : ℕ) → right_shift_of s a n ≡ Some v → v ≡ op_value (right_shift_operator s) a n
unfolding op_value
right_shift_agrees Signed a n v e = (some_if (nat_lt n 32) _ v e).0
right_shift_agrees Unsigned a n v e = (some_if (nat_lt n 32) _ v e).0

pub complement_agrees : (a : ℕ) → a < 2 ^ 32 → 2 ^ 32 - 1 - a ≡ op_value Nor a 0
unfolding op_value
complement_agrees a la = ap (λ x. 2 ^ 32 - 1 - x) (sym (or_zero_r a))
