-- Where C gives two words a value, an operator has it as its result.
use Rattle.std.proofs.Common.{◌≡◌, ℕ, ◌-◌, ◌*◌, ◌^◌, true, rules, ℤ, pos, negsuc, Some, refl, sym, ap, ◌∙◌, arith}
use Rattle.std.specs.Prelude.{◌*ℤ◌, not, bit_xor, FitsSigned}
use Rattle.std.specs.Int.{w32}
use Rattle.std.specs.Int.Bits.{xor_add_and}
use Rattle.std.proofs.lemmas.Int.{int_wrap_fits, wrapping_mul-bits, of_z-to_z}
use Rattle.std.proofs.lemmas.Nat.{and_mask}
use Rattle.std.proofs.lemmas.Bool.{ltb-true}
use Rattle.words.specs.declared.sign.Sign.{Sign}
use Rattle.words.specs.declared.sign.Sign.TheVariants.{Signed, Unsigned}
use Rattle.words.specs.Words.{wrap, signed, word_of_int}
use Rattle.words.specs.Operators.{op_value, quotient_of, remainder_of}
use Rattle.words.specs.C.{fits_int, sum_of, difference_of, times_of, negation_of, left_shift_of, right_shift_of, is_below}
use Rattle.words.proofs.OfC.{sum_agrees, difference_agrees, negation_agrees, left_shift_agrees, right_shift_agrees, int_fits}
use Rattle.runs.specs.Stores.{IsWord}
use Rattle.rtl.specs.declared.operator.Op.TheVariants.{Add, Sub, Mul, Xor, Shl}
use Rattle.rtl.specs.Operators.{truth_word, op_result}
use Rattle.rtl.specs.Laws.{quotient_op, remainder_op, right_shift_op, below_op, not_above_op}

pub sum-is : (s : Sign) (a b v : ℕ) → IsWord a → IsWord b → sum_of s a b ≡ Some v → op_result Add a b ≡ Some v
unfolding op_value
sum-is s a b v la lb e = ap Some (sym (sum_agrees s a b v la lb e))

pub difference-is : (s : Sign) (a b v : ℕ) → IsWord a → IsWord b → difference_of s a b ≡ Some v → op_result Sub a b ≡ Some v
unfolding op_value
difference-is s a b v la lb e = ap Some (sym (difference_agrees s a b v la lb e))

pub negation-is : (s : Sign) (a v : ℕ) → IsWord a → negation_of s a ≡ Some v → op_result Sub 0 a ≡ Some v
unfolding op_value
negation-is s a v la e = ap Some (sym (negation_agrees s a v la e))

pub left_shift-is : (s : Sign) (a n v : ℕ) → left_shift_of s a n ≡ Some v → op_result Shl a n ≡ Some v
unfolding op_value
left_shift-is s a n v e = ap Some (sym (left_shift_agrees s a n v e))

pub right_shift-is : (s : Sign) (a n v : ℕ) → right_shift_of s a n ≡ Some v → op_result (right_shift_op s) a n ≡ Some v
unfolding op_value
right_shift-is Signed a n v e = ap Some (sym (right_shift_agrees Signed a n v e))
right_shift-is Unsigned a n v e = ap Some (sym (right_shift_agrees Unsigned a n v e))

fits-signed : (z : ℤ) → fits_int z ≡ true → FitsSigned w32 z
fits-signed (pos n) e = let lt = ltb-true n (2 ^ 31) e in search (rules, lt)
fits-signed (negsuc n) e = let lt = ltb-true n (2 ^ 31) e in search (rules, lt)

pub product-is : (s : Sign) (a b v : ℕ) → IsWord a → IsWord b → times_of s a b ≡ Some v → op_result Mul a b ≡ Some v
product-is Signed a b v la lb e =
    let z = signed a *ℤ signed b in
    let f = int_fits z v e in
    let low : word_of_int z ≡ wrap (a * b) =
    ap word_of_int (sym (int_wrap_fits w32 z (fits-signed z f.1)) ∙ sym (wrapping_mul-bits w32 a b la lb)) ∙ of_z-to_z w32 (wrap (a * b)) (omega arith) in
    ap Some (sym (f.0 ∙ low))
product-is Unsigned a b v la lb e = e

pub quotient-is : (s : Sign) (a b : ℕ) → quotient_of s a b ≡ op_result (quotient_op s) a b
quotient-is Signed a b = refl
quotient-is Unsigned a b = refl

pub remainder-is : (s : Sign) (a b : ℕ) → remainder_of s a b ≡ op_result (remainder_op s) a b
remainder-is Signed a b = refl
remainder-is Unsigned a b = refl

pub below-is : (s : Sign) (a b : ℕ) → op_result (below_op s) a b ≡ Some (truth_word (is_below s a b))
below-is Signed a b = refl
below-is Unsigned a b = refl

pub not_above-is : (s : Sign) (a b : ℕ) → op_result (not_above_op s) a b ≡ Some (truth_word (not (is_below s b a)))
not_above-is Signed a b = refl
not_above-is Unsigned a b = refl

pub complement-is : (a : ℕ) → IsWord a → op_result Xor a (2 ^ 32 - 1) ≡ Some (2 ^ 32 - 1 - a)
complement-is a la =
    let both = xor_add_and a (2 ^ 32 - 1) in
    let low = and_mask a 32 in
    let is : bit_xor a (2 ^ 32 - 1) ≡ 2 ^ 32 - 1 - a = omega (arith, both, low) in
    ap Some is
