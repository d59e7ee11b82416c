-- What is told to be the same is equal, and each label and tree is the same as itself.
use Rattle.std.proofs.Common.{◌≡◌, ◌&&◌, ◌==◌, true, false, Some, refl, sym, ap, ap₂, ◌∙◌, true≢false, eqb-true, eq-eqb}
use Rattle.std.proofs.lemmas.Bool.{and_parts}
use Rattle.std.proofs.lemmas.Option.{same_Some}
use Rattle.words.specs.declared.operator.Operator.{Operator}
use Rattle.words.specs.declared.operator.Operator.TheVariants.{Addu}
use Rattle.words.specs.declared.width.Width.{Width}
use Rattle.words.specs.declared.width.Width.TheVariants.{Word, Byte}
use Rattle.sym_terms.specs.declared.label.Origin.{Origin}
use Rattle.sym_terms.specs.declared.label.Origin.TheVariants.{Register, Hi, Lo, Link}
use Rattle.sym_terms.specs.declared.label.Label.{Label}
use Rattle.sym_terms.specs.declared.label.Label.TheVariants.{Init, Mem0, Const, Op, Load, Store}
use Rattle.sym_terms.specs.Labels.{operator_code, operator_at, width_code, width_at}
use Rattle.sym_terms.specs.Trees.{Tree, Trees, node, none, more}
use Rattle.sym_terms.specs.Sameness.{same_origins, same_labels, are_same, all_same}

operator_back : (op : Operator) → operator_at (operator_code op) ≡ Some op
operator_back Addu = refl
operator_back _ = refl

pub operator-is : (a b : Operator) → operator_code a == operator_code b ≡ true → a ≡ b
operator-is a b h =
    same_Some a b (sym (operator_back a) ∙ (ap operator_at (eqb-true (operator_code a) (operator_code b) h) ∙ operator_back b))

width_back : (w : Width) → width_at (width_code w) ≡ Some w
width_back Word = refl
width_back Byte = refl

pub width-is : (v w : Width) → width_code v == width_code w ≡ true → v ≡ w
width-is v w h = same_Some v w (sym (width_back v) ∙ (ap width_at (eqb-true (width_code v) (width_code w) h) ∙ width_back w))

no : {A : Type 0} → false ≡ true → A
no e = absurd (true≢false (sym e))

origin-is : (a b : Origin) → same_origins a b ≡ true → a ≡ b
origin-is (Register r) (Register q) h = ap Register (eqb-true r q h)
origin-is (Register r) Hi h = no h
origin-is (Register r) Lo h = no h
origin-is (Register r) Link h = no h
origin-is Hi (Register q) h = no h
origin-is Hi Hi h = refl
origin-is Hi Lo h = no h
origin-is Hi Link h = no h
origin-is Lo (Register q) h = no h
origin-is Lo Hi h = no h
origin-is Lo Lo h = refl
origin-is Lo Link h = no h
origin-is Link (Register q) h = no h
origin-is Link Hi h = no h
origin-is Link Lo h = no h
origin-is Link Link h = refl

label-is : (l m : Label) → same_labels l m ≡ true → l ≡ m
label-is (Init a) (Init b) h = ap Init (origin-is a b h)
label-is (Init a) Mem0 h = no h
label-is (Init a) (Const b) h = no h
label-is (Init a) (Op b) h = no h
label-is (Init a) (Load b) h = no h
label-is (Init a) (Store b) h = no h
label-is Mem0 (Init b) h = no h
label-is Mem0 Mem0 h = refl
label-is Mem0 (Const b) h = no h
label-is Mem0 (Op b) h = no h
label-is Mem0 (Load b) h = no h
label-is Mem0 (Store b) h = no h
label-is (Const a) (Init b) h = no h
label-is (Const a) Mem0 h = no h
label-is (Const a) (Const b) h = ap Const (eqb-true a b h)
label-is (Const a) (Op b) h = no h
label-is (Const a) (Load b) h = no h
label-is (Const a) (Store b) h = no h
label-is (Op a) (Init b) h = no h
label-is (Op a) Mem0 h = no h
label-is (Op a) (Const b) h = no h
label-is (Op a) (Op b) h = ap Op (operator-is a b h)
label-is (Op a) (Load b) h = no h
label-is (Op a) (Store b) h = no h
label-is (Load a) (Init b) h = no h
label-is (Load a) Mem0 h = no h
label-is (Load a) (Const b) h = no h
label-is (Load a) (Op b) h = no h
label-is (Load a) (Load b) h = ap Load (width-is a b h)
label-is (Load a) (Store b) h = no h
label-is (Store a) (Init b) h = no h
label-is (Store a) Mem0 h = no h
label-is (Store a) (Const b) h = no h
label-is (Store a) (Op b) h = no h
label-is (Store a) (Load b) h = no h
label-is (Store a) (Store b) h = ap Store (width-is a b h)

mutual
  pub same-is : (x y : Tree) → are_same x y ≡ true → x ≡ y
  same-is (node l xs) (node m ys) h =
      let parts = and_parts (same_labels l m) (all_same xs ys) h in
      ap₂ node (label-is l m parts.0) (all-is xs ys parts.1)

  all-is : (xs ys : Trees) → all_same xs ys ≡ true → xs ≡ ys
  all-is none none h = refl
  all-is none (more y ys) h = no h
  all-is (more x xs) none h = no h
  all-is (more x xs) (more y ys) h =
      let parts = and_parts (are_same x y) (all_same xs ys) h in
      ap₂ more (same-is x y parts.0) (all-is xs ys parts.1)

same-origin-self : (a : Origin) → same_origins a a ≡ true
same-origin-self (Register r) = eq-eqb r r refl
same-origin-self _ = refl

same-label-self : (l : Label) → same_labels l l ≡ true
same-label-self (Init a) = same-origin-self a
same-label-self Mem0 = refl
same-label-self (Const a) = eq-eqb a a refl
same-label-self (Op a) = eq-eqb (operator_code a) (operator_code a) refl
same-label-self (Load a) = eq-eqb (width_code a) (width_code a) refl
same-label-self (Store a) = eq-eqb (width_code a) (width_code a) refl

mutual
  pub same-self : (x : Tree) → are_same x x ≡ true
  same-self (node l xs) = ap₂ (λ a b. a && b) (same-label-self l) (all-self xs)

  all-self : (xs : Trees) → all_same xs xs ≡ true
  all-self none = refl
  all-self (more x xs) = ap₂ (λ a b. a && b) (same-self x) (all-self xs)
