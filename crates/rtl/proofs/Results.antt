-- Each operator gives a word at two words, where it has a result.
use Rattle.std.proofs.Common.{◌≡◌, ℕ, ◌*◌, Bool, true, false, Some, ap, subst, arith}
use Rattle.std.specs.Prelude.{◌==◌, not, bit_and, bit_or, bit_xor}
use Rattle.std.proofs.lemmas.Option.{same_Some}
use Rattle.std.proofs.lemmas.Nat.{and_le_l, or_of_32, xor_of_32}
use Rattle.words.specs.declared.sign.Sign.TheVariants.{Signed, Unsigned}
use Rattle.words.specs.declared.operator.Operator.{Operator}
use Rattle.words.specs.declared.operator.Operator.TheVariants.{Addu, Subu, Sll, Srl, Sra, DivQuotient, DivRemainder, DivuQuotient, DivuRemainder}
use Rattle.words.specs.Words.{wrap}
use Rattle.words.specs.Operators.{or_zero, value_of, op_value}
use Rattle.words.specs.C.{is_below}
use Rattle.words.proofs.Bounds.{op_words}
use Rattle.runs.specs.Stores.{IsWord}
use Rattle.rtl.specs.declared.operator.Op.{Op}
use Rattle.rtl.specs.declared.operator.Op.TheVariants.{Add, Sub, Mul, DivS, DivU, RemS, RemU, And, Or, Xor, Shl, ShrU, ShrS, Eq, Ne, LtS, LtU, LeS, LeU}
use Rattle.rtl.specs.Operators.{truth_word, op_result}

truth-word : (b : Bool) (v : ℕ) → Some (truth_word b) ≡ Some v → IsWord v
truth-word true v e = let is : 1 ≡ v = same_Some 1 v e in omega arith
truth-word false v e = let is : 0 ≡ v = same_Some 0 v e in omega arith

-- an operator of the machine
machine-word : (op : Operator) (x y v : ℕ) → IsWord x → IsWord y → value_of op x y ≡ Some v → IsWord v
unfolding op_value
machine-word op x y v a b e = subst IsWord (ap or_zero e) (op_words op x y a b)

pub result-word : (op : Op) (x y v : ℕ) → IsWord x → IsWord y → op_result op x y ≡ Some v → IsWord v
result-word Add x y v a b e = machine-word Addu x y v a b e
result-word Sub x y v a b e = machine-word Subu x y v a b e
result-word Mul x y v a b e = let is : wrap (x * y) ≡ v = same_Some (wrap (x * y)) v e in omega arith
result-word DivS x y v a b e = machine-word DivQuotient x y v a b e
result-word DivU x y v a b e = machine-word DivuQuotient x y v a b e
result-word RemS x y v a b e = machine-word DivRemainder x y v a b e
result-word RemU x y v a b e = machine-word DivuRemainder x y v a b e
result-word And x y v a b e = let is : bit_and x y ≡ v = same_Some (bit_and x y) v e in let le = and_le_l x y in omega arith
result-word Or x y v a b e = subst IsWord (same_Some (bit_or x y) v e) (or_of_32 x y a b)
result-word Xor x y v a b e = subst IsWord (same_Some (bit_xor x y) v e) (xor_of_32 x y a b)
result-word Shl x y v a b e = machine-word Sll x y v a b e
result-word ShrU x y v a b e = machine-word Srl x y v a b e
result-word ShrS x y v a b e = machine-word Sra x y v a b e
result-word Eq x y v a b e = truth-word (x == y) v e
result-word Ne x y v a b e = truth-word (not (x == y)) v e
result-word LtS x y v a b e = truth-word (is_below Signed x y) v e
result-word LtU x y v a b e = truth-word (is_below Unsigned x y) v e
result-word LeS x y v a b e = truth-word (not (is_below Signed y x)) v e
result-word LeU x y v a b e = truth-word (not (is_below Unsigned y x)) v e
