-- A label is read back from its word.
use Rattle.std.proofs.Common.{◌≡◌, ℕ, ◌+◌, ◌*◌, ◌/◌, ◌%◌, ◌^◌, ◌<◌, ◌≤◌, ◌&&◌, nat_lt, true, Some, refl, sym, ap, subst, ◌∙◌, arith}
use Rattle.sym_terms.specs.declared.label.Origin.TheVariants.{Register, Hi, Lo, Link}
use Rattle.words.specs.declared.operator.Operator.TheVariants.{Addu, Subu, And, Or, Xor, Nor, Slt, Sltu, Sll, Srl, Sra, MultHigh, MultLow}
use Rattle.words.specs.declared.operator.Operator.TheVariants.{MultuHigh, MultuLow, DivQuotient, DivRemainder, DivuQuotient, DivuRemainder}
use Rattle.words.specs.declared.width.Width.TheVariants.{Word, Byte}
use Rattle.sym_terms.specs.declared.label.Label.{Label}
use Rattle.sym_terms.specs.declared.label.Label.TheVariants.{Init, Mem0, Const, Op, Load, Store}
use Rattle.sym_terms.specs.Labels.{label_word, label_arity, is_label, label_with, label_in, label_if, origin_at}

register_back : (r : ℕ) → nat_lt 0 r && nat_lt r 32 ≡ true → origin_at r ≡ Some (Register r)
register_back r e = grind arith

register_low : (r : ℕ) → nat_lt 0 r && nat_lt r 32 ≡ true → r < 2 ^ 32
register_low r e = grind arith

kind_is : (k c : ℕ) → c < 2 ^ 32 → (k * 2 ^ 32 + c) / 2 ^ 32 ≡ k
kind_is k c lt = grind arith

content_is : (k c : ℕ) → c < 2 ^ 32 → (k * 2 ^ 32 + c) % 2 ^ 32 ≡ c
content_is k c lt = grind arith

read_at : (k c : ℕ) → c < 2 ^ 32 → label_with (k * 2 ^ 32 + c) ≡ label_in k c
read_at k c lt = λ i. label_in (kind_is k c lt i) (content_is k c lt i)

read_back : (l : Label) → is_label l ≡ true → label_with (label_word l) ≡ Some l
read_back (Init (Register r)) e = read_at 1 r (register_low r e) ∙ ap (label_if Init) (register_back r e)
read_back (Init Hi) e = refl
read_back (Init Lo) e = refl
read_back (Init Link) e = refl
read_back Mem0 e = refl
read_back (Const n) e = read_at 3 n (grind arith)
read_back (Op Addu) e = refl
read_back (Op Subu) e = refl
read_back (Op And) e = refl
read_back (Op Or) e = refl
read_back (Op Xor) e = refl
read_back (Op Nor) e = refl
read_back (Op Slt) e = refl
read_back (Op Sltu) e = refl
read_back (Op Sll) e = refl
read_back (Op Srl) e = refl
read_back (Op Sra) e = refl
read_back (Op MultHigh) e = refl
read_back (Op MultLow) e = refl
read_back (Op MultuHigh) e = refl
read_back (Op MultuLow) e = refl
read_back (Op DivQuotient) e = refl
read_back (Op DivRemainder) e = refl
read_back (Op DivuQuotient) e = refl
read_back (Op DivuRemainder) e = refl
read_back (Load Word) e = refl
read_back (Load Byte) e = refl
read_back (Store Word) e = refl
read_back (Store Byte) e = refl

arity_low : (l : Label) → label_arity l ≤ 3
arity_low (Init origin) = omega arith
arity_low Mem0 = omega arith
arity_low (Const n) = omega arith
arity_low (Op operator) = omega arith
arity_low (Load w) = omega arith
arity_low (Store w) = omega arith

-- and it stands over three children at most
pub label_with-back : (l : Label) → is_label l ≡ true → (label_with (label_word l) ≡ Some l) × (label_arity l ≤ 3)
label_with-back l e = (read_back l e, arity_low l)

-- labels with one word are one
pub one_label : (l m : Label) → is_label l ≡ true → is_label m ≡ true → label_word l ≡ label_word m → l ≡ m
one_label l m e f same = let both : Some l ≡ Some m = sym (read_back l e) ∙ (ap label_with same ∙ read_back m f) in cc

-- the word of a label has no other
pub only_label : (w : ℕ) (l : Label) → is_label l ≡ true → label_word l ≡ w → label_with w ≡ Some l
only_label w l e same = subst (λ (v : ℕ). label_with v ≡ Some l) same (read_back l e)
