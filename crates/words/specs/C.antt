-- What the operators of C make of two words (C99 6.5.3.3, 6.5.5 to 6.5.8), by the sign of the type that they compute in. There is none
-- where C leaves the result undefined.
use Rattle.std.specs.Prelude.{ℕ, ◌*◌, ◌^◌, ℤ, pos, negsuc, ◌+ℤ◌, ◌-ℤ◌, ◌*ℤ◌, neg_ℤ, Bool, ◌&&◌, nat_lt, int_lt, Option, Some, None}
use Rattle.std.specs.Prelude.{if◌then◌else◌}
use Rattle.words.specs.declared.sign.Sign.{Sign}
use Rattle.words.specs.declared.sign.Sign.TheVariants.{Signed, Unsigned}
use Rattle.words.specs.Words.{wrap, signed, word_of_int}
use Rattle.words.specs.Operators.{addu, subu, sra, srl}

-- an `int` has this value: -2147483648 to 2147483647 (C99 5.2.4.2.1)
abbrev pub fits_int : ℤ → Bool
fits_int (pos n) = nat_lt n (2 ^ 31)
fits_int (negsuc n) = nat_lt n (2 ^ 31)

-- the word of a value, or none where no `int` has it (C99 6.5, paragraph 5)
abbrev pub as_int : ℤ → Option ℕ
as_int z = if fits_int z then Some (word_of_int z) else None

abbrev pub sum_of : Sign → ℕ → ℕ → Option ℕ
sum_of Signed a b = as_int (signed a +ℤ signed b)
sum_of Unsigned a b = Some (addu a b)

abbrev pub difference_of : Sign → ℕ → ℕ → Option ℕ
difference_of Signed a b = as_int (signed a -ℤ signed b)
difference_of Unsigned a b = Some (subu a b)

abbrev pub times_of : Sign → ℕ → ℕ → Option ℕ
times_of Signed a b = as_int (signed a *ℤ signed b)
times_of Unsigned a b = Some (wrap (a * b))

abbrev pub negation_of : Sign → ℕ → Option ℕ
negation_of Signed a = as_int (neg_ℤ (signed a))
negation_of Unsigned a = Some (subu 0 a)

-- by less than the number of bits: a negative count, read as a word, is more. Only an `int` that isn't negative is shifted, and only to
-- what an `int` has; of an `unsigned` the low 32 bits are kept (C99 6.5.7)
abbrev pub left_shift_of : Sign → ℕ → ℕ → Option ℕ
left_shift_of Signed a n = if nat_lt n 32 && nat_lt (a * 2 ^ n) (2 ^ 31) then Some (a * 2 ^ n) else None
left_shift_of Unsigned a n = if nat_lt n 32 then Some (wrap (a * 2 ^ n)) else None

-- the copies of a negative number's sign come in from above
abbrev pub right_shift_of : Sign → ℕ → ℕ → Option ℕ
right_shift_of Signed a n = if nat_lt n 32 then Some (sra a n) else None
right_shift_of Unsigned a n = if nat_lt n 32 then Some (srl a n) else None

abbrev pub is_below : Sign → ℕ → ℕ → Bool
is_below Signed a b = int_lt (signed a) (signed b)
is_below Unsigned a b = nat_lt a b
