-- The value of a typed expression (C99 6.5): a word, or none where C leaves it undefined or a local isn't set.
use Rattle.std.specs.Prelude.{ℕ, ◌-◌, ◌^◌, Bool, not, ◌==◌, List, [], ◌∷◌, Option, Some, if◌then◌else◌, bit_and, bit_or, bit_xor}
use Rattle.c_tokens.specs.declared.token.IntegerType.{IntegerType}
use Rattle.c_tokens.specs.declared.token.IntegerType.TheVariants.{SignedInt, UnsignedInt}
use Rattle.c_tree.specs.declared.tree.UnaryOp.{UnaryOp}
use Rattle.c_tree.specs.declared.tree.UnaryOp.TheVariants.{Negate, Identity, Complement, Not}
use Rattle.c_tree.specs.declared.tree.BinaryOp.{BinaryOp}
use Rattle.c_tree.specs.declared.tree.BinaryOp.TheVariants.{Multiply, Divide, Remainder, Add, Subtract, ShiftLeft, ShiftRight, Less}
use Rattle.c_tree.specs.declared.tree.BinaryOp.TheVariants.{Greater, LessOrEqual}
use Rattle.c_tree.specs.declared.tree.BinaryOp.TheVariants.{GreaterOrEqual, Equal, NotEqual, BitAnd, BitXor, BitOr, LogicalAnd, LogicalOr}
use Rattle.c_typed.specs.Trees.{TypedExpression, constant, local, global, element, unary, binary, conditional}
use Rattle.words.specs.declared.sign.Sign.{Sign}
use Rattle.words.specs.declared.sign.Sign.TheVariants.{Signed, Unsigned}
use Rattle.words.specs.Words.{wrap}
use Rattle.words.specs.Operators.{quotient_of, remainder_of}
use Rattle.words.specs.C.{sum_of, difference_of, times_of, negation_of, left_shift_of, right_shift_of, is_below}
use Rattle.runs.specs.Stores.{Places, Arrays, chain, element_at}

-- how the words of a type are read (C99 6.2.5)
abbrev pub sign_of : IntegerType → Sign
sign_of SignedInt = Signed
sign_of UnsignedInt = Unsigned

-- tests give 0 or 1 (C99 6.5.8, 6.5.9, 6.5.3.3)
abbrev pub truth : Bool → ℕ
truth b = if b then 1 else 0

abbrev pub unary_of : UnaryOp → Sign → ℕ → Option ℕ
unary_of Negate s x = negation_of s x
unary_of Identity s x = Some x
unary_of Complement s x = Some (2 ^ 32 - 1 - x)
unary_of Not s x = Some (truth (x == 0))

-- operators whose operands are both evaluated, and `&&` and `||` as if they were so
abbrev pub binary_of : BinaryOp → Sign → ℕ → ℕ → Option ℕ
binary_of Multiply s x y = times_of s x y
binary_of Divide s x y = quotient_of s x y
binary_of Remainder s x y = remainder_of s x y
binary_of Add s x y = sum_of s x y
binary_of Subtract s x y = difference_of s x y
binary_of ShiftLeft s x y = left_shift_of s x y
binary_of ShiftRight s x y = right_shift_of s x y
binary_of Less s x y = Some (truth (is_below s x y))
binary_of Greater s x y = Some (truth (is_below s y x))
binary_of LessOrEqual s x y = Some (truth (not (is_below s y x)))
binary_of GreaterOrEqual s x y = Some (truth (not (is_below s x y)))
binary_of Equal s x y = Some (truth (x == y))
binary_of NotEqual s x y = Some (truth (not (x == y)))
binary_of BitAnd s x y = Some (bit_and x y)
binary_of BitXor s x y = Some (bit_xor x y)
binary_of BitOr s x y = Some (bit_or x y)
binary_of LogicalAnd s x y = Some (truth (not (y == 0)))
binary_of LogicalOr s x y = Some (truth (not (y == 0)))

-- the values of the operands, put together: `&&` and `||` leave the right one aside where the left one decides
-- (C99 6.5.13, 6.5.14)
abbrev pub binary_value : BinaryOp → Sign → Option ℕ → Option ℕ → Option ℕ
binary_value LogicalAnd s left right = chain left (λ x. if x == 0 then Some 0 else chain right (λ y. binary_of LogicalAnd s x y))
binary_value LogicalOr s left right = chain left (λ x. if x == 0 then chain right (λ y. binary_of LogicalOr s x y) else Some 1)
binary_value o s left right = chain left (λ x. chain right (λ y. binary_of o s x y))

-- the value at these locals and globals; a constant means a word, whatever number a tree has
abbrev pub value_of : TypedExpression → Places → Arrays → Option ℕ
value_of (constant c) l g = Some (wrap c.value)
value_of (local n k) l g = l n
value_of (global n k) l g = element_at g n 0
value_of (element n k e) l g = chain (value_of e l g) (λ i. element_at g n i)
value_of (unary o k e) l g = chain (value_of e l g) (λ x. unary_of o (sign_of k) x)
value_of (binary o k left right) l g = binary_value o (sign_of k) (value_of left l g) (value_of right l g)
value_of (conditional k c a b) l g = chain (value_of c l g) (λ x. if x == 0 then value_of b l g else value_of a l g)

-- the values of a list of expressions, or none where one has none
abbrev pub values_of : List TypedExpression → Places → Arrays → Option (List ℕ)
values_of [] l g = Some []
values_of (e ∷ rest) l g = chain (value_of e l g) (λ x. chain (values_of rest l g) (λ xs. Some (x ∷ xs)))
