-- Each operator gives a word at two words.
use Rattle.std.proofs.Common.{◌≡◌, ℕ, zero, suc, ◌-◌, ◌*◌, ◌/◌, ◌%◌, ◌^◌, ◌<◌, ◌≤◌, Bool, true, false, cond, nat_lt, ℤ, pos, negsuc}
use Rattle.std.proofs.Common.{Some, None, refl, sym, subst, arith}
use Rattle.std.specs.Prelude.{int_div, int_rem, int_lt, neg_ℤ, ◌*ℤ◌}
use Rattle.std.specs.Int.{w32, w64, cast_unsigned}
use Rattle.std.specs.Int.RustNames.{unsigned_abs}
use Rattle.std.proofs.lemmas.Int.{ints, unsigned_abs-mul}
use Rattle.std.proofs.lemmas.Nat.{and_le_l, or_of_32, xor_of_32, mul-lt}
use native.Mathlib.Nat.{div-le_self, mod-le}
use Rattle.words.specs.declared.sign.Sign.{Sign}
use Rattle.words.specs.declared.sign.Sign.TheVariants.{Signed, Unsigned}
use Rattle.words.specs.declared.operator.Operator.{Operator}
use Rattle.words.specs.declared.operator.Operator.TheVariants.{And, Or, Xor, Slt, Sltu, Srl, Sra, MultHigh}
use Rattle.words.specs.declared.operator.Operator.TheVariants.{MultuHigh, DivQuotient, DivRemainder, DivuQuotient, DivuRemainder}
use Rattle.words.specs.Words.{signed}
use Rattle.words.specs.Operators.{op_value, or_zero, product, has_quotient, quotient, remainder, srl}

either_below : (b : Bool) (x y : ℕ) → x < 2 ^ 32 → y < 2 ^ 32 → cond b x y < 2 ^ 32
either_below true x y hx hy = hx
either_below false x y hx hy = hy

-- ---- signed numbers as words

unsigned_32 : (z : ℤ) → unsigned_abs z < 2 ^ 32 → cast_unsigned w32 z < 2 ^ 32
unsigned_32 (pos n) h = h
unsigned_32 (negsuc n) h = omega arith

unsigned_64 : (z : ℤ) → unsigned_abs z < 2 ^ 64 → cast_unsigned w64 z < 2 ^ 64
unsigned_64 (pos n) h = h
unsigned_64 (negsuc n) h = omega arith

abs_neg : (r : ℕ) → unsigned_abs (neg_ℤ (pos r)) ≡ r
abs_neg zero = refl
abs_neg (suc r) = refl

signed_abs : (a : ℕ) → a < 2 ^ 32 → unsigned_abs (signed a) ≤ 2 ^ 31
signed_abs a lt = grind (arith, ints)

quotient_abs : (x y : ℤ) → unsigned_abs (int_div x y) ≤ unsigned_abs x
quotient_abs (pos a) (pos b) = div-le_self a b
quotient_abs (pos a) (negsuc b) = subst (λ n. n ≤ a) (sym (abs_neg (a / suc b))) (div-le_self a (suc b))
quotient_abs (negsuc a) (pos b) = subst (λ n. n ≤ suc a) (sym (abs_neg (suc a / b))) (div-le_self (suc a) b)
quotient_abs (negsuc a) (negsuc b) = div-le_self (suc a) (suc b)

remainder_abs : (x y : ℤ) → unsigned_abs (int_rem x y) ≤ unsigned_abs x
remainder_abs (pos a) d = mod-le a (unsigned_abs d)
remainder_abs (negsuc a) d = subst (λ n. n ≤ suc a) (sym (abs_neg (suc a % unsigned_abs d))) (mod-le (suc a) (unsigned_abs d))

product_below : (sign : Sign) (a b : ℕ) → a < 2 ^ 32 → b < 2 ^ 32 → product sign a b < 2 ^ 64
product_below Signed a b la lb =
    let size : unsigned_abs (signed a *ℤ signed b) ≡ unsigned_abs (signed a) * unsigned_abs (signed b) = unsigned_abs-mul (signed a) (signed b) in
    let x = signed_abs a la in
    let y = signed_abs b lb in
    let both : unsigned_abs (signed a) * unsigned_abs (signed b) < 2 ^ 32 * 2 ^ 32 =
    mul-lt (unsigned_abs (signed a)) (unsigned_abs (signed b)) (2 ^ 32) (2 ^ 32) (omega arith) (omega arith) in
    unsigned_64 (signed a *ℤ signed b) (omega arith)
product_below Unsigned a b la lb = mul-lt a b (2 ^ 32) (2 ^ 32) la lb

if_below : (b : Bool) (x : ℕ) → x < 2 ^ 32 → or_zero (cond b (Some x) None) < 2 ^ 32
if_below true x h = h
if_below false x h = omega arith

quotient_below : (sign : Sign) (a b : ℕ) → a < 2 ^ 32 → quotient sign a b < 2 ^ 32
quotient_below Signed a b la = let q = quotient_abs (signed a) (signed b) in let s = signed_abs a la in
    unsigned_32 (int_div (signed a) (signed b)) (omega arith)
quotient_below Unsigned a b la = let q = div-le_self a b in omega arith

remainder_below : (sign : Sign) (a b : ℕ) → a < 2 ^ 32 → remainder sign a b < 2 ^ 32
remainder_below Signed a b la = let q = remainder_abs (signed a) (signed b) in let s = signed_abs a la in
    unsigned_32 (int_rem (signed a) (signed b)) (omega arith)
remainder_below Unsigned a b la = let q = mod-le a b in omega arith

-- every operator gives a word at two words
pub op_words : (op : Operator) (a b : ℕ) → a < 2 ^ 32 → b < 2 ^ 32 → op_value op a b < 2 ^ 32
unfolding op_value
op_words And a b la lb = let le = and_le_l a b in omega arith
op_words Or a b la lb = or_of_32 a b la lb
op_words Xor a b la lb = xor_of_32 a b la lb
op_words Slt a b la lb = either_below (int_lt (signed a) (signed b)) 1 0 (omega arith) (omega arith)
op_words Sltu a b la lb = either_below (nat_lt a b) 1 0 (omega arith) (omega arith)
op_words Srl a b la lb = let le = div-le_self a (2 ^ (b % 32)) in omega arith
op_words Sra a b la lb = let le = div-le_self a (2 ^ (b % 32)) in
    either_below (nat_lt a (2 ^ 31)) (srl a b) (2 ^ 32 - 1 - srl (2 ^ 32 - 1 - a) b) (omega arith) (omega arith)
op_words MultHigh a b la lb = let p = product_below Signed a b la lb in omega arith
op_words MultuHigh a b la lb = let p = product_below Unsigned a b la lb in omega arith
op_words DivQuotient a b la lb = if_below (has_quotient Signed a b) (quotient Signed a b) (quotient_below Signed a b la)
op_words DivRemainder a b la lb = if_below (has_quotient Signed a b) (remainder Signed a b) (remainder_below Signed a b la)
op_words DivuQuotient a b la lb = if_below (has_quotient Unsigned a b) (quotient Unsigned a b) (quotient_below Unsigned a b la)
op_words DivuRemainder a b la lb = if_below (has_quotient Unsigned a b) (remainder Unsigned a b) (remainder_below Unsigned a b la)
op_words _ a b la lb = omega arith
