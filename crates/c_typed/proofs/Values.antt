-- Values of expressions, where the locals and the globals hold words.
use Rattle.std.proofs.Common.{◌≡◌, ℕ, ◌-◌, ◌<◌, ◌^◌, List, [], ◌∷◌, Bool, true, false, Option, Some, None, refl, subst, arith}
use Rattle.std.specs.Prelude.{All, ◌==◌, not, bit_and, bit_or, bit_xor, if◌then◌else◌}
use Rattle.std.proofs.lemmas.Option.{none-some, same_Some}
use Rattle.std.proofs.lemmas.List.Elements.{All-nil, All-cons}
use Rattle.std.proofs.lemmas.Nat.{and_le_l, or_of_32, xor_of_32}
use Rattle.words.specs.declared.sign.Sign.{Sign}
use Rattle.words.specs.declared.operator.Operator.TheVariants.{Addu, Subu, Sll}
use Rattle.words.specs.Words.{wrap}
use Rattle.words.specs.C.{is_below}
use Rattle.words.specs.Laws.{product_operator, quotient_operator, remainder_operator, right_shift_operator}
use Rattle.words.proofs.Bounds.{op_words}
use Rattle.words.proofs.OfC.{sum_agrees, difference_agrees, product_agrees, quotient_agrees, remainder_agrees, negation_agrees, left_shift_agrees}
use Rattle.words.proofs.OfC.{right_shift_agrees}
use Rattle.runs.specs.Stores.{Places, Arrays, chain, element_at, IsWord, PlacesHoldWords, ArraysHoldWords}
use Rattle.runs.proofs.Words.{chain-some, element-at}
use Rattle.c_tree.specs.declared.tree.UnaryOp.{UnaryOp}
use Rattle.c_tree.specs.declared.tree.UnaryOp.TheVariants.{Negate, Identity, Complement, Not}
use Rattle.c_tree.specs.declared.tree.BinaryOp.{BinaryOp}
use Rattle.c_tree.specs.declared.tree.BinaryOp.TheVariants.{Multiply, Divide, Remainder, Add, Subtract, ShiftLeft, ShiftRight, Less, Greater, LessOrEqual}
use Rattle.c_tree.specs.declared.tree.BinaryOp.TheVariants.{GreaterOrEqual, Equal, NotEqual, BitAnd, BitXor, BitOr, LogicalAnd, LogicalOr}
use Rattle.c_typed.specs.Trees.{TypedExpression, constant, local, global, element, unary, binary, conditional}
use Rattle.c_typed.specs.Values.{sign_of, truth, unary_of, binary_of, binary_value, value_of, values_of}

along : (v w : ℕ) → v ≡ w → w < 2 ^ 32 → v < 2 ^ 32
along v w e h = omega (arith, e)

truth-word : (b : Bool) (v : ℕ) → Some (truth b) ≡ Some v → IsWord v
truth-word true v e = let is : 1 ≡ v = same_Some 1 v e in omega arith
truth-word false v e = let is : 0 ≡ v = same_Some 0 v e in omega arith

unary-word : (o : UnaryOp) (s : Sign) (x v : ℕ) → IsWord x → unary_of o s x ≡ Some v → IsWord v
unary-word Negate s x v h e = along v _ (negation_agrees s x v h e) (op_words Subu 0 x (omega arith) h)
unary-word Identity s x v h e = let is : x ≡ v = same_Some x v e in omega arith
unary-word Complement s x v h e = let is : 2 ^ 32 - 1 - x ≡ v = same_Some (2 ^ 32 - 1 - x) v e in omega arith
unary-word Not s x v h e = truth-word (x == 0) v e

binary-word : (o : BinaryOp) (s : Sign) (x y v : ℕ) → IsWord x → IsWord y → binary_of o s x y ≡ Some v → IsWord v
binary-word Multiply s x y v a b e = along v _ (product_agrees s x y v a b e) (op_words (product_operator s) x y a b)
binary-word Divide s x y v a b e = along v _ (quotient_agrees s x y v e) (op_words (quotient_operator s) x y a b)
binary-word Remainder s x y v a b e = along v _ (remainder_agrees s x y v e) (op_words (remainder_operator s) x y a b)
binary-word Add s x y v a b e = along v _ (sum_agrees s x y v a b e) (op_words Addu x y a b)
binary-word Subtract s x y v a b e = along v _ (difference_agrees s x y v a b e) (op_words Subu x y a b)
binary-word ShiftLeft s x y v a b e = along v _ (left_shift_agrees s x y v e) (op_words Sll x y a b)
binary-word ShiftRight s x y v a b e = along v _ (right_shift_agrees s x y v e) (op_words (right_shift_operator s) x y a b)
binary-word Less s x y v a b e = truth-word (is_below s x y) v e
binary-word Greater s x y v a b e = truth-word (is_below s y x) v e
binary-word LessOrEqual s x y v a b e = truth-word (not (is_below s y x)) v e
binary-word GreaterOrEqual s x y v a b e = truth-word (not (is_below s x y)) v e
binary-word Equal s x y v a b e = truth-word (x == y) v e
binary-word NotEqual s x y v a b e = truth-word (not (x == y)) v e
binary-word BitAnd s x y v a b e = let is : bit_and x y ≡ v = same_Some (bit_and x y) v e in let le = and_le_l x y in omega arith
binary-word BitXor s x y v a b e = subst IsWord (same_Some (bit_xor x y) v e) (xor_of_32 x y a b)
binary-word BitOr s x y v a b e = subst IsWord (same_Some (bit_or x y) v e) (or_of_32 x y a b)
binary-word _ s x y v a b e = truth-word (not (y == 0)) v e

-- a value that is a word, where there is one
abbrev GivesWord : Option ℕ → Type 0
GivesWord o = (v : ℕ) → o ≡ Some v → IsWord v

either-word : (b : Bool) (x y : Option ℕ) → GivesWord x → GivesWord y → GivesWord (if b then x else y)
either-word true x y h l = h
either-word false x y h l = l

some-word : (w : ℕ) → IsWord w → GivesWord (Some w)
some-word w h v e = subst IsWord (same_Some w v e) h

none-word : GivesWord None
none-word v e = absurd (none-some v e)

chain-word : {A : Type 0} (o : Option A) (f : A → Option ℕ) → ((a : A) → o ≡ Some a → GivesWord (f a)) → GivesWord (chain o f)
chain-word None f h = none-word
chain-word (Some a) f h = h a refl

binary_value-word : (o : BinaryOp) (s : Sign) (left right : Option ℕ) → GivesWord left → GivesWord right → GivesWord (binary_value o s left right)
binary_value-word LogicalAnd s left right a b =
    chain-word left (λ x. if x == 0 then Some 0 else chain right (λ y. binary_of LogicalAnd s x y))
    (λ x e. either-word (x == 0) (Some 0) (chain right (λ y. binary_of LogicalAnd s x y)) (some-word 0 (omega arith))
    (chain-word right (λ y. binary_of LogicalAnd s x y) (λ y f v. binary-word LogicalAnd s x y v (a x e) (b y f))))
binary_value-word LogicalOr s left right a b =
    chain-word left (λ x. if x == 0 then chain right (λ y. binary_of LogicalOr s x y) else Some 1)
    (λ x e. either-word (x == 0) (chain right (λ y. binary_of LogicalOr s x y)) (Some 1)
    (chain-word right (λ y. binary_of LogicalOr s x y) (λ y f v. binary-word LogicalOr s x y v (a x e) (b y f))) (some-word 1 (omega arith)))
binary_value-word o s left right a b =
    chain-word left (λ x. chain right (λ y. binary_of o s x y))
    (λ x e. chain-word right (λ y. binary_of o s x y) (λ y f v. binary-word o s x y v (a x e) (b y f)))

pub value-word : (e : TypedExpression) (l : Places) (g : Arrays) → PlacesHoldWords l → ArraysHoldWords g → (v : ℕ) → value_of e l g ≡ Some v → IsWord v
value-word (constant c) l g h k v e = let is : wrap c.value ≡ v = same_Some (wrap c.value) v e in omega arith
value-word (local n t) l g h k v e = h n v e
value-word (global n t) l g h k v e = element-at g n 0 v k e
value-word (element n t i) l g h k v e =
    let s = chain-some (value_of i l g) (λ x. element_at g n x) v e in
    element-at g n s.0 v k s.2
value-word (unary o t a) l g h k v e =
    let s = chain-some (value_of a l g) (λ x. unary_of o (sign_of t) x) v e in
    unary-word o (sign_of t) s.0 v (value-word a l g h k s.0 s.1) s.2
value-word (binary o t a b) l g h k v e =
    binary_value-word o (sign_of t) (value_of a l g) (value_of b l g) (value-word a l g h k) (value-word b l g h k) v e
value-word (conditional t c a b) l g h k v e =
    chain-word (value_of c l g) (λ x. if x == 0 then value_of b l g else value_of a l g)
    (λ x f. either-word (x == 0) (value_of b l g) (value_of a l g) (value-word b l g h k) (value-word a l g h k)) v e

pub values-words : (all : List TypedExpression) (l : Places) (g : Arrays) → PlacesHoldWords l → ArraysHoldWords g → (vs : List ℕ) → values_of all l g ≡ Some vs
    → All IsWord vs
values-words [] l g h k vs e = subst (λ (xs : List ℕ). All IsWord xs) (same_Some [] vs e) (All-nil IsWord)
values-words (a ∷ rest) l g h k vs e =
    let s = chain-some (value_of a l g) (λ x. chain (values_of rest l g) (λ xs. Some (x ∷ xs))) vs e in
    let t = chain-some (values_of rest l g) (λ xs. Some (s.0 ∷ xs)) vs s.2 in
    subst (λ (xs : List ℕ). All IsWord xs) (same_Some (s.0 ∷ t.0) vs t.2)
    (All-cons IsWord s.0 t.0 (value-word a l g h k s.0 s.1) (values-words rest l g h k t.0 t.1))
