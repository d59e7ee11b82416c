-- What code does that waits for its operands, and truth values.
use Rattle.std.proofs.Common.{◌≡◌, ℕ, List, refl, sym, ◌∙◌, ap, subst, arith}
use Rattle.c_tokens.specs.declared.token.IntegerType.{IntegerType}
use Rattle.c_tree.specs.declared.tree.BinaryOp.{BinaryOp}
use Rattle.c_tree.specs.declared.tree.UnaryOp.{UnaryOp}
use Rattle.c_typed.specs.declared.tree.TypedExpression as Tree
use Rattle.c_typed.specs.Shape.{typed_expression_of}
use Rattle.c_typed.specs.Trees.{TypedExpression, element, unary, binary, conditional}
use Rattle.rtl.specs.declared.operator.Op.TheVariants as O
use Rattle.rtl.specs.declared.instruction.RInst.{RInst}
use Rattle.rtl.specs.declared.instruction.RInst.TheVariants as I
use Rattle.rtl.specs.declared.instruction.RExit.TheVariants as X
use Rattle.rtl.specs.declared.block.RBlock.{RBlock}
use Rattle.rtl.specs.Meaning.{Code}
use Rattle.rtl_emit.specs.Operations.{inst_of}
use Rattle.rtl_emit.specs.Blocks.{goto, exit_code, first, Spot, Lands, Grows, Has, At}
use Rattle.rtl_emit.specs.Expressions.{IsPlace, IsTruth, Gives, Evaluates, Fetches, Decides, at_constant}
use Rattle.rtl_emit.specs.declared.operation.Operation.{Operation}
use Rattle.rtl_emit.proofs.Operations.{straight_op}
use Rattle.rtl_emit.proofs.Blocks.{split3}
use Rattle.rtl_emit.proofs.Values.{combines, plain_decides, negated_decides}

-- what holds of every list of blocks that has those which were added
abbrev pub Over : List RBlock → List RBlock → (List RBlock → Type 0) → Type 0
Over old new P = (bs : List RBlock) → Has bs old new → P bs

abbrev pub Seals : List RBlock → List RBlock → ℕ → Code → Type 0
Seals old new b c = Over old new (λ bs. At bs b c)

abbrev pub Joins : List RBlock → List RBlock → ℕ → Spot → Type 0
Joins old new b s = Over old new (λ bs. Lands bs b s)

-- the same of an expression or of code that is equal
pub gives_from : {bs : List RBlock} {e : TypedExpression} {free d : ℕ} {from from' to : Code} → from ≡ from' → Evaluates bs e free d from' to
    → Evaluates bs e free d from to
gives_from {bs} {e} {free} {d} {from} {from'} {to} is ev = subst (λ c. Evaluates bs e free d c to) (sym is) ev

pub finds_to : {bs : List RBlock} {e : TypedExpression} {free p : ℕ} {from to to' : Code} → to ≡ to' → Fetches bs e free p from to
    → Fetches bs e free p from to'
finds_to {bs} {e} {free} {p} {from} is ev = subst (λ c. Fetches bs e free p from c) is ev

pub at_equal : {bs : List RBlock} {b : ℕ} {c c' : Code} → c ≡ c' → At bs b c → At bs b c'
at_equal {bs} {b} e a = subst (λ c. At bs b c) e a

-- an expression whose operator and parts are these
pub element_is : {e : TypedExpression} (k : IntegerType) (p q : ℕ × Tree.TypedExpression) → e ≡ element p.0 k (typed_expression_of p.1) → q ≡ p
    → e ≡ element q.0 k (typed_expression_of q.1)
element_is k p q is iq = rw (is, iq) refl

pub unary_is : {e : TypedExpression} (o o' : UnaryOp) (k : IntegerType) (a a' : TypedExpression) → e ≡ unary o k a → o ≡ o' → a' ≡ a → e ≡ unary o' k a'
unary_is o o' k a a' is io ia = rw (is, io, ia) refl

pub binary_is : {e : TypedExpression} (o o' : BinaryOp) (k : IntegerType) (p q : Tree.TypedExpression × Tree.TypedExpression)
    → e ≡ binary o k (typed_expression_of p.0) (typed_expression_of p.1) → o ≡ o' → q ≡ p
    → e ≡ binary o' k (typed_expression_of q.0) (typed_expression_of q.1)
binary_is o o' k p q is io iq = rw (is, io, iq) refl

pub conditional_is : {e : TypedExpression} (k : IntegerType) (p q : Tree.TypedExpression × Tree.TypedExpression × Tree.TypedExpression)
    → e ≡ conditional k (typed_expression_of p.0) (typed_expression_of p.1) (typed_expression_of p.2) → q ≡ p
    → e ≡ conditional k (typed_expression_of q.0) (typed_expression_of q.1) (typed_expression_of q.2)
conditional_is k p q is iq = rw (is, iq) refl

-- values

pub combine_from : (bs : List RBlock) (op : Operation) (e : TypedExpression) (c d free p next z : ℕ) (inst : RInst) (from middle last after : Code)
    → inst ≡ inst_of op d p z → last ≡ first inst after → middle ≡ first (I.Const z c) last → IsPlace e free p next → z ≡ next
    → Fetches bs e free p from middle → Gives bs (at_constant op e c) free d from after
combine_from bs op e c d free p next z inst from middle last after ii f1 f2 pl iz f =
    combines bs op e c d free p next z from after pl (omega arith) (finds_to (f2 ∙ ap (first (I.Const z c)) (f1 ∙ ap (λ i. first i after) ii)) f)

-- conditions

pub plain_from : (bs : List RBlock) (e : TypedExpression) (p y n free next : ℕ) (from end : Code) → end ≡ exit_code (X.Branch p y n)
    → IsPlace e free p next → Fetches bs e free p from end → Decides bs e free y n from
plain_from bs e p y n free next from end fe pl f = plain_decides bs e p y n free next from pl (finds_to fe f)

pub negated_from : (bs : List RBlock) (e : TypedExpression) (op : Operation) (z y n free : ℕ) (from end : Code) → end ≡ exit_code (X.Branch z n y)
    → op ≡ straight_op O.Eq → z ≡ free → Gives bs (at_constant op e 0) free z from end → Decides bs e free y n from
negated_from bs e op z y n free from end fe io iz m = negated_decides bs e z y n free from (omega arith) (rw (← io, ← fe) m)

-- values by conditions

pub truth_code : (b0 b1 b2 b3 : List RBlock) (d join n y : ℕ) (after : Spot) (no_end no_code yes_end yes_code : Code)
    → no_end ≡ goto join → no_code ≡ first (I.Const d 0) no_end → yes_end ≡ goto join → yes_code ≡ first (I.Const d 1) yes_end
    → Grows b0 b1 → Grows b1 b2 → Grows b2 b3 → Joins b0 b1 join after → Seals b1 b2 n no_code → Seals b2 b3 y yes_code
    → Over b0 b3 (λ bs. IsTruth bs d y n after)
truth_code b0 b1 b2 b3 d join n y after no_end no_code yes_end yes_code e1 e2 e3 e4 g1 g2 g3 s1 s2 s3 bs h =
    let t = split3 bs b0 b1 b2 b3 g1 g2 g3 h in
    record {
      join = join;
      joined = s1 bs t.0;
      yes_at = at_equal (e4 ∙ ap (first (I.Const d 1)) e3) (s3 bs t.2);
      no_at = at_equal (e2 ∙ ap (first (I.Const d 0)) e1) (s2 bs t.1);
    }
