-- What each operator makes of two words (Kane, MIPS RISC Architecture, chapter 3 and appendix A).
use Rattle.std.specs.Prelude.{ℕ, ◌+◌, ◌-◌, ◌*◌, ◌/◌, ◌%◌, ◌^◌, ◌*ℤ◌, Bool, not, ◌&&◌, ◌==◌, nat_lt, int_lt, int_div, int_rem, Option, Some}
use Rattle.std.specs.Prelude.{None, if◌then◌else◌, bit_and, bit_or, bit_xor}
use Rattle.std.specs.Int.{w64, cast_unsigned}
use Rattle.words.specs.declared.sign.Sign.{Sign}
use Rattle.words.specs.declared.sign.Sign.TheVariants.{Signed, Unsigned}
use Rattle.words.specs.declared.operator.Operator.{Operator}
use Rattle.words.specs.declared.operator.Operator.TheVariants.{Addu, Subu, And, Or, Xor, Nor, Slt, Sltu, Sll, Srl, Sra, MultHigh, MultLow}
use Rattle.words.specs.declared.operator.Operator.TheVariants.{MultuHigh, MultuLow, DivQuotient, DivRemainder, DivuQuotient, DivuRemainder}
use Rattle.words.specs.Words.{wrap, signed, word_of_int}

abbrev pub addu : ℕ → ℕ → ℕ
addu a b = wrap (a + b)

abbrev pub subu : ℕ → ℕ → ℕ
subu a b = wrap (a + (2 ^ 32 - b))

-- each bit that is set in neither word
abbrev pub nor : ℕ → ℕ → ℕ
nor a b = 2 ^ 32 - 1 - bit_or a b

-- 1 where the first is less, as signed numbers
abbrev pub slt : ℕ → ℕ → ℕ
slt a b = if int_lt (signed a) (signed b) then 1 else 0

abbrev pub sltu : ℕ → ℕ → ℕ
sltu a b = if nat_lt a b then 1 else 0

-- a shift goes by the low five bits of its amount
abbrev pub sll : ℕ → ℕ → ℕ
sll a n = wrap (a * 2 ^ (n % 32))

abbrev pub srl : ℕ → ℕ → ℕ
srl a n = a / 2 ^ (n % 32)

-- the bits that come in from above repeat the sign: the copies of a negative word's sign fill the upper bits
abbrev pub sra : ℕ → ℕ → ℕ
sra a n = if nat_lt a (2 ^ 31) then srl a n else 2 ^ 32 - 1 - srl (2 ^ 32 - 1 - a) n

-- the 64 bits of a product
abbrev pub product : Sign → ℕ → ℕ → ℕ
product Signed a b = cast_unsigned w64 (signed a *ℤ signed b)
product Unsigned a b = a * b

abbrev pub high_half : ℕ → ℕ
high_half n = n / 2 ^ 32

abbrev pub low_half : ℕ → ℕ
low_half n = wrap n

-- a division has a value: not by 0, and not -2147483648 by -1 as signed numbers
abbrev pub has_quotient : Sign → ℕ → ℕ → Bool
has_quotient Signed a b = not (b == 0) && not ((a == 2 ^ 31) && (b == 2 ^ 32 - 1))
has_quotient Unsigned a b = not (b == 0)

-- toward zero
abbrev pub quotient : Sign → ℕ → ℕ → ℕ
quotient Signed a b = word_of_int (int_div (signed a) (signed b))
quotient Unsigned a b = a / b

abbrev pub remainder : Sign → ℕ → ℕ → ℕ
remainder Signed a b = word_of_int (int_rem (signed a) (signed b))
remainder Unsigned a b = a % b

abbrev pub quotient_of : Sign → ℕ → ℕ → Option ℕ
quotient_of sign a b = if has_quotient sign a b then Some (quotient sign a b) else None

abbrev pub remainder_of : Sign → ℕ → ℕ → Option ℕ
remainder_of sign a b = if has_quotient sign a b then Some (remainder sign a b) else None

-- the value of an operator at two words; none for a division without one
abbrev pub value_of : Operator → ℕ → ℕ → Option ℕ
value_of Addu a b = Some (addu a b)
value_of Subu a b = Some (subu a b)
value_of And a b = Some (bit_and a b)
value_of Or a b = Some (bit_or a b)
value_of Xor a b = Some (bit_xor a b)
value_of Nor a b = Some (nor a b)
value_of Slt a b = Some (slt a b)
value_of Sltu a b = Some (sltu a b)
value_of Sll a b = Some (sll a b)
value_of Srl a b = Some (srl a b)
value_of Sra a b = Some (sra a b)
value_of MultHigh a b = Some (high_half (product Signed a b))
value_of MultLow a b = Some (low_half (product Signed a b))
value_of MultuHigh a b = Some (high_half (product Unsigned a b))
value_of MultuLow a b = Some (low_half (product Unsigned a b))
value_of DivQuotient a b = quotient_of Signed a b
value_of DivRemainder a b = remainder_of Signed a b
value_of DivuQuotient a b = quotient_of Unsigned a b
value_of DivuRemainder a b = remainder_of Unsigned a b

abbrev pub or_zero : Option ℕ → ℕ
or_zero (Some w) = w
or_zero None = 0

-- the same, made total: 0 for a division without a value
unfoldable pub op_value : Operator → ℕ → ℕ → ℕ
op_value op a b = or_zero (value_of op a b)
