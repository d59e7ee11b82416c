-- The trees of instructions in normal form, each made from trees in normal form. N1 and N2 gather the constants of a sum. N3 lets a load
-- pass the stores that it doesn't meet. N4 puts such stores over one base in the order of their offsets. Six, Boulmé and Monniaux (OOPSLA
-- 2020) rewrite terms in this way.
use Rattle.std.specs.Prelude.{ℕ, ◌+◌, ◌-◌, ◌%◌, ◌^◌, Bool, true, false, not, ◌&&◌, ◌==◌, nat_le, int_lt, Option, Some, None, if◌then◌else◌}
use Rattle.words.specs.declared.operator.Operator.{Operator}
use Rattle.words.specs.declared.operator.Operator.TheVariants.{Addu}
use Rattle.words.specs.declared.width.Width.{Width}
use Rattle.words.specs.declared.width.Width.TheVariants.{Word, Byte}
use Rattle.words.specs.Words.{wrap, signed}
use Rattle.sym_terms.specs.declared.label.Label.{Label}
use Rattle.sym_terms.specs.declared.label.Label.TheVariants.{Const, Op, Load, Store}
use Rattle.sym_terms.specs.Labels.{operator_code}
use Rattle.sym_terms.specs.Trees.{Tree, node, none, more, leaf, binary, ternary}
use Rattle.sym_terms.specs.Sameness.{are_same}

abbrev pub const_tree : ℕ → Tree
const_tree w = leaf (Const w)

abbrev pub label_constant : Label → Option ℕ
label_constant (Const w) = Some w
label_constant _ = None

-- the word that a tree is a constant of
abbrev pub constant_of : Tree → Option ℕ
constant_of (node l none) = label_constant l
constant_of (node l (more x xs)) = None

abbrev pub is_addition : Operator → Bool
is_addition op = operator_code op == operator_code Addu

abbrev pub is_sum : Label → Bool
is_sum (Op op) = is_addition op
is_sum _ = false

-- an address: a base, and how many bytes after it
pub record Address : Type 0 where
  pub base : Tree
  pub offset : ℕ

abbrev pub at_base : Tree → Address
at_base t = record { base = t; offset = 0 }

abbrev pub sum_address : Bool → Tree → Tree → Option ℕ → Address
sum_address true t x (Some c) = record { base = x; offset = wrap c }
sum_address true t x None = at_base t
sum_address false t x c = at_base t

-- a sum with a constant is the base and the constant, any other tree the base itself
abbrev pub address_of : Tree → Address
address_of (node l none) = at_base (node l none)
address_of (node l (more x none)) = at_base (node l (more x none))
address_of (node l (more x (more y none))) = sum_address (is_sum l) (binary l x y) x (constant_of y)
address_of (node l (more x (more y (more z rest)))) = at_base (node l (more x (more y (more z rest))))

-- N2: nothing is added where the constant is 0
abbrev pub tree_plus : Tree → ℕ → Tree
tree_plus x c = if c == 0 then x else binary (Op Addu) x (const_tree c)

-- N1: a constant is added to the constant that stands there
abbrev pub sum_tree : Tree → Tree → Option ℕ → Tree
sum_tree a b None = binary (Op Addu) a b
sum_tree a b (Some c) = tree_plus (address_of a).base (wrap ((address_of a).offset + c))

unfoldable pub op_tree : Operator → Tree → Tree → Tree
op_tree op a b = if is_addition op then sum_tree a b (constant_of b) else binary (Op op) a b

-- how far an offset is after another
abbrev pub distance : ℕ → ℕ → ℕ
distance a b = (a + 2 ^ 32 - b) % 2 ^ 32

-- what stands at two offsets from one base shares no byte, where words stand at multiples of 4
abbrev pub are_disjoint : Width → ℕ → Width → ℕ → Bool
are_disjoint Word a Word b = not (a == b) && (distance a b % 4 == 0)
are_disjoint Byte a Byte b = not (a == b)
are_disjoint Byte a Word b = nat_le 4 (distance a b)
are_disjoint Word a Byte b = nat_le 4 (distance b a)

-- accesses over one base that don't meet
abbrev pub are_apart : Width → Address → Width → Address → Bool
are_apart v a w b = are_same a.base b.base && are_disjoint v a.offset w b.offset

-- the store of this label and address is one that an access of width w at b doesn't meet
abbrev pub is_passed : Label → Address → Width → Address → Bool
is_passed (Store v) a w b = are_apart v a w b
is_passed _ a w b = false

-- and has the greater offset
abbrev pub is_passed_inward : Label → Address → Width → Address → Bool
is_passed_inward l a w b = is_passed l a w b && int_lt (signed b.offset) (signed a.offset)

-- N3
unfoldable pub load_tree : Width → Tree → Tree → Tree
load_tree w (node l none) b = binary (Load w) (node l none) b
load_tree w (node l (more x none)) b = binary (Load w) (node l (more x none)) b
load_tree w (node l (more x (more y none))) b = binary (Load w) (node l (more x (more y none))) b
load_tree w (node l (more m (more a (more v none)))) b =
    let r = load_tree w m b in if is_passed l (address_of a) w (address_of b) then r else binary (Load w) (ternary l m a v) b
load_tree w (node l (more x (more y (more z (more u rest))))) b = binary (Load w) (node l (more x (more y (more z (more u rest))))) b

-- N4
unfoldable pub store_tree : Width → Tree → Tree → Tree → Tree
store_tree w (node l none) b x = ternary (Store w) (node l none) b x
store_tree w (node l (more m none)) b x = ternary (Store w) (node l (more m none)) b x
store_tree w (node l (more m (more a none))) b x = ternary (Store w) (node l (more m (more a none))) b x
store_tree w (node l (more m (more a (more v none)))) b x =
    let r = store_tree w m b x in if is_passed_inward l (address_of a) w (address_of b) then ternary l r a v
    else ternary (Store w) (ternary l m a v) b x
store_tree w (node l (more m (more a (more v (more u rest))))) b x = ternary (Store w) (node l (more m (more a (more v (more u rest))))) b x
