-- Which operator of RTL computes an operator of C (C99 6.5.5 to 6.5.14), and which one computes the contrary of a test.
use Rattle.std.specs.Prelude.{◌≡◌, ◌≢◌, ℕ, Bool, true, false, not, Option, Some, if◌then◌else◌}
use Rattle.c_tree.specs.declared.tree.BinaryOp.{BinaryOp}
use Rattle.c_tree.specs.declared.tree.UnaryOp.{UnaryOp}
use Rattle.c_tree.specs.declared.tree.UnaryOp.TheVariants as U
use Rattle.words.specs.Words.{wrap}
use Rattle.words.specs.declared.sign.Sign.{Sign}
use Rattle.words.specs.declared.sign.Sign.TheVariants.{Signed, Unsigned}
use Rattle.runs.specs.Stores.{IsWord, chain}
use Rattle.c_typed.specs.Values.{truth, unary_of, binary_of, binary_value}
use Rattle.rtl.specs.declared.operator.Op.{Op}
use Rattle.rtl.specs.declared.instruction.RInst.{RInst}
use Rattle.rtl.specs.declared.instruction.RInst.TheVariants.{Bin}
use Rattle.rtl.specs.Operators.{truth_word, op_result}
use Rattle.rtl_emit.specs.Sizes.{logical_of}
use Rattle.rtl_emit.specs.declared.operation.Operation.{Operation}
use Rattle.rtl_emit.specs.declared.operation.Combination.{Combination}
use Rattle.rtl_emit.specs.declared.operation.Form.{Form}
use Rattle.rtl_emit.specs.declared.operation.Form.TheVariants as F
use Rattle.rtl_emit.specs.declared.operation.Prefix.{Prefix}
use Rattle.rtl_emit.specs.declared.operation.Prefix.TheVariants as P

-- one operator for words read as signed numbers, another for words as they are
abbrev pub by_sign : Sign → Op → Op → Op
by_sign Signed a b = a
by_sign Unsigned a b = b

-- what an operation gives at two words
abbrev pub result_of : Operation → ℕ → ℕ → Option ℕ
result_of o x y = if o.turned then op_result o.op y x else op_result o.op x y

-- the instruction that puts it into the register `to`, of the words in two registers
abbrev pub inst_of : Operation → (to left right : ℕ) → RInst
inst_of o to left right = if o.turned then Bin o.op to right left else Bin o.op to left right

-- both operands are evaluated, the left one first
abbrev pub EvaluatesBoth : BinaryOp → Sign → Type 0
EvaluatesBoth o s = (left right : Option ℕ) → binary_value o s left right ≡ chain left (λ x. chain right (λ y. binary_of o s x y))

-- wherever C gives two words a value, the operation gives it
pub record Computes (o : BinaryOp) (s : Sign) (op : Operation) : Type 0 where
  pub both : EvaluatesBoth o s
  pub by : (x y v : ℕ) → IsWord x → IsWord y → binary_of o s x y ≡ Some v → result_of op x y ≡ Some v

abbrev pub IsForm : BinaryOp → Sign → Form → Type 0
IsForm o s (F.Logical both) = o ≡ logical_of both
IsForm o s (F.Plain op) = Computes o s op

-- a test, and an operation that tells of two words whether it is false
pub record ComputesContrary (o : BinaryOp) (s : Sign) (op : Operation) : Type 0 where
  pub both : EvaluatesBoth o s
  pub by : (x y : ℕ) → (z : Bool) × (binary_of o s x y ≡ Some (truth z)) × (result_of op x y ≡ Some (truth_word (not z)))

-- a word whose value by a prefix operator an operation with a constant gives, wherever C gives it one
pub record ComputesPrefix (o : UnaryOp) (with : Combination) : Type 0 where
  pub by : (s : Sign) (x v : ℕ) → IsWord x → unary_of o s x ≡ Some v → result_of with.operation x (wrap with.word) ≡ Some v

abbrev pub IsPrefix : UnaryOp → (by_branches : Bool) → Prefix → Type 0
IsPrefix o b P.Same = o ≡ U.Identity
IsPrefix o b P.Branches = (o ≡ U.Not) × (b ≡ true)
IsPrefix o b (P.Combined with) = (o ≢ U.Identity) × ((o ≡ U.Not → b ≡ false) × ComputesPrefix o with)
