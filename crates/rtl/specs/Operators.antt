-- What an operator makes of two words. The operators are the machine's (Kane, MIPS RISC Architecture), with divisions and tests as C has
-- them (C99 6.5.5, 6.5.8, 6.5.9).
use Rattle.std.specs.Prelude.{ℕ, ◌*◌, Bool, not, ◌==◌, Option, Some, if◌then◌else◌, bit_and, bit_or, bit_xor}
use Rattle.words.specs.declared.sign.Sign.TheVariants.{Signed, Unsigned}
use Rattle.words.specs.Words.{wrap}
use Rattle.words.specs.Operators.{addu, subu, sll, srl, sra, quotient_of, remainder_of}
use Rattle.words.specs.C.{is_below}
use Rattle.rtl.specs.declared.operator.Op.{Op}
use Rattle.rtl.specs.declared.operator.Op.TheVariants.{Add, Sub, Mul, DivS, DivU, RemS, RemU, And, Or, Xor, Shl, ShrU, ShrS, Eq, Ne, LtS}
use Rattle.rtl.specs.declared.operator.Op.TheVariants.{LtU, LeS, LeU}

-- tests give 0 or 1
abbrev pub truth_word : Bool → ℕ
truth_word b = if b then 1 else 0

-- none for a division without a value
abbrev pub op_result : Op → ℕ → ℕ → Option ℕ
op_result Add x y = Some (addu x y)
op_result Sub x y = Some (subu x y)
op_result Mul x y = Some (wrap (x * y))
op_result DivS x y = quotient_of Signed x y
op_result DivU x y = quotient_of Unsigned x y
op_result RemS x y = remainder_of Signed x y
op_result RemU x y = remainder_of Unsigned x y
op_result And x y = Some (bit_and x y)
op_result Or x y = Some (bit_or x y)
op_result Xor x y = Some (bit_xor x y)
op_result Shl x y = Some (sll x y)
op_result ShrU x y = Some (srl x y)
op_result ShrS x y = Some (sra x y)
op_result Eq x y = Some (truth_word (x == y))
op_result Ne x y = Some (truth_word (not (x == y)))
op_result LtS x y = Some (truth_word (is_below Signed x y))
op_result LtU x y = Some (truth_word (is_below Unsigned x y))
op_result LeS x y = Some (truth_word (not (is_below Signed y x)))
op_result LeU x y = Some (truth_word (not (is_below Unsigned y x)))
