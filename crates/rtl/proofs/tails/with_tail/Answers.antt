use Rattle.std.proofs.Common.{◌≡◌, ℕ, List, Option, Some, None, ap, sym, ◌∙◌, refl}
use Rattle.std.specs.List.{slice_get}
use Rattle.runs.proofs.Lookups.{found, past}
use Rattle.rtl.specs.declared.instruction.RExit.{RExit}
use Rattle.rtl.specs.declared.instruction.RExit.TheVariants.{Goto}
use Rattle.rtl.specs.declared.block.RBlock.{RBlock}
use Rattle.rtl.specs.Meaning.{Code, code_of}
use Rattle.rtl.specs.Tails.{is_short, spare_constant, with_tail, tailed_by}
use Rattle.rtl.proofs.tails.with_tail.Goals as goal

-- code that ends otherwise stays
no_goto : (before : List RBlock) (c : Code) (x : RExit) → ((n : ℕ) → x ≡ Goto n → ⊥) → c ≡ tailed_by before c x
no_goto before c (Goto n) other = absurd (other n refl)
no_goto before c _ other = refl

-- and so does code that goes to a block that isn't copied
stays : (before : List RBlock) (c : Code) (x : RExit) (n : ℕ) (o : Option RBlock) → x ≡ Goto n → slice_get before n ≡ o → c ≡ with_tail c o
    → c ≡ tailed_by before c x
stays before c x n o e there same = rw (e, there) same

pub returns-in_default : goal.returns-in_default
returns-in_default c = no_goto c.args.before.now (code_of c.args.block) c.args.block.exit c.in_default.not-Goto

pub returns-in_default-get : goal.returns-in_default-get
returns-in_default-get c =
    stays c.args.before.now (code_of c.args.block) c.args.block.exit c.in-Goto.number None c.in-Goto.is
    (past c.args.before.now c.in-Goto.number c.get.result c.get.ensures.lookup.0 c.in_default-get.is) refl

pub returns-then-not-is_short : goal.returns-then-not-is_short
returns-then-not-is_short c =
    let there = found c.args.before.now c.in-Goto.number c.get.result c.in-Some.tail c.get.ensures.lookup.0 c.get.ensures.lookup.1 c.in-Some.is in
    let long = ap is_short (sym c.as_slice.ensures.value) ∙ sym c.is_short.ensures ∙ c.if-not-is_short.true in
    stays c.args.before.now (code_of c.args.block) c.args.block.exit c.in-Goto.number (Some c.in-Some.tail.now) c.in-Goto.is there (rw long)

pub returns-in_default-spare_constant : goal.returns-in_default-spare_constant
returns-in_default-spare_constant c =
    let there = found c.args.before.now c.in-Goto.number c.get.result c.in-Some.tail c.get.ensures.lookup.0 c.get.ensures.lookup.1 c.in-Some.is in
    let short = ap is_short (sym c.as_slice.ensures.value) ∙ sym c.is_short.ensures ∙ c.if-not-is_short.false in
    let none = ap spare_constant (sym c.as_slice-2.ensures.value) ∙ sym c.spare_constant.ensures ∙ c.in_default-spare_constant.is in
    stays c.args.before.now (code_of c.args.block) c.args.block.exit c.in-Goto.number (Some c.in-Some.tail.now) c.in-Goto.is there (rw (short, none))

pub returns-in_default-again : goal.returns-in_default-again
returns-in_default-again c =
    let there = found c.args.before.now c.in-Goto.number c.get.result c.in-Some.tail c.get.ensures.lookup.0 c.get.ensures.lookup.1 c.in-Some.is in
    let short = ap is_short (sym c.as_slice.ensures.value) ∙ sym c.is_short.ensures ∙ c.if-not-is_short.false in
    let spare = ap spare_constant (sym c.as_slice-2.ensures.value) ∙ sym c.spare_constant.ensures ∙ c.in-Some-spare_constant.is in
    let none = sym c.again.ensures ∙ c.in_default-again.is in
    stays c.args.before.now (code_of c.args.block) c.args.block.exit c.in-Goto.number (Some c.in-Some.tail.now) c.in-Goto.is there (rw (short, spare, none))

pub returns : goal.returns
returns c =
    let there = found c.args.before.now c.in-Goto.number c.get.result c.in-Some.tail c.get.ensures.lookup.0 c.get.ensures.lookup.1 c.in-Some.is in
    let short = ap is_short (sym c.as_slice.ensures.value) ∙ sym c.is_short.ensures ∙ c.if-not-is_short.false in
    let spare = ap spare_constant (sym c.as_slice-2.ensures.value) ∙ sym c.spare_constant.ensures ∙ c.in-Some-spare_constant.is in
    rw (c.in-Goto.is, there, short, spare, ← c.again.ensures, c.in-Some-again.is, ← c.as_slice-3.ensures.value) c.join.ensures
