-- Products by one more or one less than a power of 2.
use Rattle.std.proofs.Common.{◌≡◌, ℕ, suc, ◌+◌, ◌-◌, ◌*◌, ◌%◌, ◌^◌, ◌<◌, true, Option, Some, None, refl, ap, ◌∙◌, arith, eqb-true}
use Rattle.std.proofs.Math.Nat.{mul-suc}
use Rattle.std.proofs.lemmas.Bool.{cond_both}
use Rattle.std.proofs.lemmas.Nat.{pow_pos}
use Rattle.std.proofs.lemmas.Option.{same_Some, none-some}
use Rattle.words.specs.declared.operator.Operator.TheVariants as operators
use Rattle.words.specs.Words.{wrap}
use Rattle.words.specs.Operators.{value_of, op_value}
use Rattle.mips_isa.specs.declared.inst.ShiftOp.TheVariants.{Sll}
use Rattle.mips_isa.specs.declared.inst.AluOp.{AluOp}
use Rattle.mips_isa.specs.declared.inst.AluOp.TheVariants.{Addu, Subu}
use Rattle.mips_isa.specs.Actions.{alu_operator}
use Rattle.rtl.specs.declared.operator.Op.{Op}
use Rattle.rtl.specs.declared.operator.Op.TheVariants.{Mul}
use Rattle.rtl.specs.Operators.{op_result}
use Rattle.mips_emit.specs.declared.product.ShiftedSum.{ShiftedSum}
use Rattle.mips_emit.specs.Code.{next_word, exponent, is_power, multiple, multiple_of}
use Rattle.mips_emit.proofs.Operations.{shifted, symmetric}

-- a word shifted, and then its sum with the word or the difference
pub record IsMultiple (m : ShiftedSum) (v u : ℕ) : Type 0 where
  pub shown : ℕ
  pub shifts : op_value operators.Sll v (wrap (m.amount % 32)) ≡ shown
  pub sums : value_of (alu_operator m.op) shown v ≡ Some u

-- a word shifted, and then an operator on that and the word
made : (op : AluOp) (d v u : ℕ) → is_power d ≡ true → (0 < d → value_of (alu_operator op) (wrap (v * d)) v ≡ Some u)
    → IsMultiple (record { op = op; amount = exponent d }) v u
unfolding op_value
made op d v u b sums =
    let power : 2 ^ (exponent d % 32) ≡ d = eqb-true (2 ^ (exponent d % 32)) d b in
    record { shown = wrap (v * 2 ^ (exponent d % 32)); shifts = shifted Sll v (exponent d); sums = rw power (sums (rw power at (pow_pos (exponent d % 32)))) }

one_more : (v c u : ℕ) → 0 < c - 1 → wrap (v * c) ≡ u → wrap (wrap (v * (c - 1)) + v) ≡ u
one_more v c u low is =
    let next : c ≡ suc (c - 1) = omega (arith, low) in
    let times : v * c ≡ v * (c - 1) + v = ap (λ n. v * n) next ∙ mul-suc v (c - 1) in
    omega (arith, times, is)

one_less : (v p c u : ℕ) → v < 2 ^ 32 → c < 2 ^ 32 → p ≡ next_word c → 0 < p → wrap (v * c) ≡ u → wrap (wrap (v * p) + (2 ^ 32 - v)) ≡ u
one_less v p c u lv lc e low is =
    let next : p ≡ suc c = omega (arith, e, low, lc) in
    let times : v * p ≡ v * c + v = ap (λ n. v * n) next ∙ mul-suc v c in
    omega (arith, times, is, lv)

-- what is multiplied so is the product
pub multiple_is : (m : ShiftedSum) (c v u : ℕ) → v < 2 ^ 32 → c < 2 ^ 32 → multiple c ≡ Some m → wrap (v * c) ≡ u → IsMultiple m v u
multiple_is m c v u lv lc is e = cond_both (is_power c) None _ Given (λ _ is. absurd (none-some m is))
    (λ _. cond_both (is_power (c - 1)) (Some (record { op = Addu; amount = exponent (c - 1) })) _ Given
    (λ b is. rw (← same_Some _ m is) (made Addu (c - 1) v u b (λ low. ap Some (one_more v c u low e))))
    (λ _. cond_both (is_power (next_word c)) (Some (record { op = Subu; amount = exponent (next_word c) })) None Given
    (λ b is. rw (← same_Some _ m is) (made Subu (next_word c) v u b (λ low. ap Some (one_less v (next_word c) c u lv lc refl low e))))
    (λ _ is. absurd (none-some m is)))) is
  where
    Given : Option ShiftedSum → Type 0
    Given o = o ≡ Some m → IsMultiple m v u

-- of a word and one that is known
pub multiplied : (op : Op) (o : Option ℕ) (m : ShiftedSum) (v w u : ℕ) → ((c : ℕ) → o ≡ Some c → c ≡ w) → v < 2 ^ 32 → w < 2 ^ 32 → multiple_of op o ≡ Some m
    → op_result op v w ≡ Some u → IsMultiple m v u
multiplied Mul (Some c) m v w u said lv lw is e =
    let same = said c refl in multiple_is m c v u lv (omega (arith, same, lw)) is (rw same (same_Some (wrap (v * w)) u e))
multiplied _ _ m v w u said lv lw is e = absurd (none-some m is)

pub turned_multiplied : (op : Op) (o : Option ℕ) (m : ShiftedSum) (v w u : ℕ) → ((c : ℕ) → o ≡ Some c → c ≡ v) → v < 2 ^ 32 → w < 2 ^ 32
    → multiple_of op o ≡ Some m → op_result op v w ≡ Some u → IsMultiple m w u
turned_multiplied Mul o m v w u said lv lw is e = multiplied Mul o m w v u said lw lv is (symmetric Mul w v refl ∙ e)
turned_multiplied _ o m v w u said lv lw is e = absurd (none-some m is)
