-- Laws between the operators of C and those of the machine, on two words: what a compiler from one to the other rests on.
use Rattle.std.specs.Prelude.{◌≡◌, ◌<◌, ◌-◌, ◌^◌, ℕ, Some}
use Rattle.words.specs.declared.sign.Sign.{Sign}
use Rattle.words.specs.declared.operator.Operator.{Operator}
use Rattle.words.specs.declared.operator.Operator.TheVariants.{Addu, Subu, Nor, Sll, Srl, Sra, MultLow, MultuLow, DivQuotient}
use Rattle.words.specs.declared.operator.Operator.TheVariants.{DivRemainder, DivuQuotient, DivuRemainder}
use Rattle.words.specs.Operators.{op_value, quotient_of, remainder_of}
use Rattle.words.specs.Signs.{by_sign}
use Rattle.words.specs.C.{sum_of, difference_of, times_of, negation_of, left_shift_of, right_shift_of}

abbrev pub OperatorsGiveWords : Type 0
OperatorsGiveWords = (op : Operator) (a b : ℕ) → a < 2 ^ 32 → b < 2 ^ 32 → op_value op a b < 2 ^ 32

-- the machine's operator by the sign of a C type
abbrev pub product_operator : Sign → Operator
product_operator sign = by_sign sign MultLow MultuLow

abbrev pub right_shift_operator : Sign → Operator
right_shift_operator sign = by_sign sign Sra Srl

abbrev pub quotient_operator : Sign → Operator
quotient_operator sign = by_sign sign DivQuotient DivuQuotient

abbrev pub remainder_operator : Sign → Operator
remainder_operator sign = by_sign sign DivRemainder DivuRemainder

-- each value that C gives is that of the machine's operator, and so a word; the complement is `nor` with 0
pub record CComputesAsTheMachine : Type 0 where
  pub sum : (s : Sign) (a b v : ℕ) → a < 2 ^ 32 → b < 2 ^ 32 → sum_of s a b ≡ Some v → v ≡ op_value Addu a b
  pub difference : (s : Sign) (a b v : ℕ) → a < 2 ^ 32 → b < 2 ^ 32 → difference_of s a b ≡ Some v → v ≡ op_value Subu a b
  pub product : (s : Sign) (a b v : ℕ) → a < 2 ^ 32 → b < 2 ^ 32 → times_of s a b ≡ Some v → v ≡ op_value (product_operator s) a b
  pub quotient : (s : Sign) (a b v : ℕ) → quotient_of s a b ≡ Some v → v ≡ op_value (quotient_operator s) a b
  pub remainder : (s : Sign) (a b v : ℕ) → remainder_of s a b ≡ Some v → v ≡ op_value (remainder_operator s) a b
  pub negation : (s : Sign) (a v : ℕ) → a < 2 ^ 32 → negation_of s a ≡ Some v → v ≡ op_value Subu 0 a
  pub left_shift : (s : Sign) (a n v : ℕ) → left_shift_of s a n ≡ Some v → v ≡ op_value Sll a n
  pub right_shift : (s : Sign) (a n v : ℕ) → right_shift_of s a n ≡ Some v → v ≡ op_value (right_shift_operator s) a n
  pub complement : (a : ℕ) → a < 2 ^ 32 → 2 ^ 32 - 1 - a ≡ op_value Nor a 0
