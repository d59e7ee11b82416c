-- What the code of a value does, and the code of a condition; values that branches tell.
use Rattle.std.proofs.Common.{◌≡◌, ◌≢◌, ℕ, ◌<◌, ◌≤◌, ◌⊎◌, inl, inr, Bool, true, false, List, [], ◌∷◌, Some, refl, sym, ◌∙◌, ap, subst, arith, nat_eq, Option}
use Rattle.std.specs.Prelude.{map, if◌then◌else◌, not}
use Rattle.std.proofs.lemmas.Bool.Decides.{eqb_tells}
use Rattle.words.specs.Words.{wrap}
use Rattle.runs.specs.Stores.{Places, Arrays, places_with, chain, element_at}
use Rattle.c_tokens.specs.declared.token.IntegerType.{IntegerType}
use Rattle.c_tokens.specs.declared.token.Literal.{Literal}
use Rattle.c_tree.specs.declared.tree.BinaryOp.{BinaryOp}
use Rattle.c_tree.specs.declared.tree.UnaryOp.{UnaryOp}
use Rattle.c_tree.specs.declared.tree.UnaryOp.TheVariants as U
use Rattle.c_tree.specs.declared.tree.BinaryOp.TheVariants as B
use Rattle.c_typed.specs.Trees.{TypedExpression, constant, local, global, element, unary, binary, conditional}
use Rattle.c_typed.specs.Values.{sign_of, unary_of, value_of, values_of, truth}
use Rattle.c_typed.proofs.Values.{value-word}
use Rattle.rtl.specs.declared.operator.Op.{Op}
use Rattle.rtl.specs.declared.instruction.RInst.TheVariants as I
use Rattle.rtl.specs.declared.block.RBlock.{RBlock}
use Rattle.rtl.specs.Operators.{op_result}
use Rattle.rtl.specs.Meaning.{Code, Surroundings, at, rtl_step, words_in, state_at_block}
use Rattle.rtl.specs.declared.operator.Op.TheVariants as O
use Rattle.rtl.specs.declared.instruction.RExit.TheVariants as X
use Rattle.rtl_emit.specs.Operations.{inst_of, result_of, Computes, ComputesPrefix, ComputesContrary}
use Rattle.rtl_emit.specs.Blocks.{first, goto, exit_code, Spot, line_of, Lands, At}
use Rattle.rtl_emit.specs.Runs.{Goes, Holds, Puts, Yields, Takes, Moves, Arrives}
use Rattle.rtl_emit.specs.Expressions.{Wanted, word_of, Reads, IsPlace, Gives, Evaluates, Fetches, ArePlaces, FetchAll, at_values}
use Rattle.rtl_emit.specs.Expressions.{at_constant, Decides, IsTruth}
use Rattle.rtl_emit.specs.declared.operation.Combination.{Combination}
use Rattle.rtl_emit.specs.declared.operation.Operation.{Operation}
use Rattle.rtl_emit.specs.declared.place.Place.{Place}
use Rattle.rtl_emit.proofs.Steps.{goes_nowhere, goes_then, goes_one, moves_one, moves_then, moves_after, goes_of, with_some, chained, both_valued}
use Rattle.rtl_emit.proofs.Steps.{written_here, written_other, holds_kept, jump_to, joins}
use Rattle.rtl_emit.proofs.Operations.{straight_op}

-- what code does, from what it does at any registers
gives : {bs : List RBlock} {wanted : Wanted} {free d : ℕ} {from to : Code} → ((w : Surroundings) (l r : Places) (v : ℕ) → Holds free l r w.globals
    → word_of wanted l w.globals ≡ Some v → Yields w bs r from to (Puts free d v r)) → Gives bs wanted free d from to
gives f = record { by = f }

decides : {bs : List RBlock} {e : TypedExpression} {free yes no : ℕ} {from : Code} → ((w : Surroundings) (l r : Places) (v : ℕ) → Holds free l r w.globals
    → value_of e l w.globals ≡ Some v → Arrives w bs free r from (if nat_eq v 0 then no else yes)) → Decides bs e free yes no from
decides f = record { by = f }

-- places

-- an operand in its place: all that is kept is the same, and the place is kept by what comes later
pub record Taken (w : Surroundings) (bs : List RBlock) (free p next : ℕ) (r : Places) (from to : Code) (v : ℕ) : Type 0 where
  pub regs : Places
  pub goes : Goes w.program w.depth (at w bs r from) (at w bs regs to)
  pub value : regs p ≡ Some v
  pub kept : (x : ℕ) → x < free → regs x ≡ r x
  pub held : p < next

pub taken : (w : Surroundings) (bs : List RBlock) (e : TypedExpression) (free p next : ℕ) (from to : Code) (l r : Places) (v : ℕ)
    → IsPlace e free p next → Fetches bs e free p from to → Holds free l r w.globals → value_of e l w.globals ≡ Some v → Taken w bs free p next r from to v
taken w bs e free p next from to l r v pl f h is =
    let y = f.by w l r v h is in
    record { regs = y.regs; goes = y.goes; value = y.done.value; kept = λ x lt. kept y x lt pl.is (eqb_tells x p); held = held pl.is }
  where
    kept : (y : Takes w bs r from to (Puts free p v r)) (x : ℕ) → x < free → Reads e p ⊎ ((free ≤ p) × (p < next))
        → ((nat_eq x p ≡ true) × (x ≡ p)) ⊎ ((nat_eq x p ≡ false) × (x ≢ p)) → y.regs x ≡ r x
    kept y x lt (inr far) t = let ne : x ≢ p = omega (arith, far.0) in y.done.kept x lt ne
    kept y x lt (inl reads) (inr ne) = y.done.kept x lt ne.1
    kept y x lt (inl reads) (inl eq) = ap y.regs eq.1 ∙ y.done.value ∙ sym (h.by p v (reads l w.globals v is)).1 ∙ ap r (sym eq.1)

    held : Reads e p ⊎ ((free ≤ p) × (p < next)) → p < next
    held (inl reads) = omega (arith, pl.rooms, (h.by p v (reads l w.globals v is)).0)
    held (inr far) = far.1

-- values

module _ {w : Surroundings} {bs : List RBlock} {free d : ℕ} {r : Places} {from to : Code} {v : ℕ} where
  yields_one : rtl_step w.program w.depth (at w bs r from) ≡ at w bs (places_with r d (Some v)) to → Yields w bs r from to (Puts free d v r)
  yields_one e = record {
    regs = places_with r d (Some v);
    moves = moves_one e;
    done = record { value = written_here r d (Some v); kept = λ x k ne. written_other r d (Some v) x ne };
  }

  yields_after : {r1 : Places} {mid : Code} → Goes w.program w.depth (at w bs r from) (at w bs r1 mid) → ((x : ℕ) → x < free → r1 x ≡ r x)
      → Yields w bs r1 mid to (Puts free d v r1) → Yields w bs r from to (Puts free d v r)
  yields_after go same y =
      record { regs = y.regs; moves = moves_after go y.moves; done = record { value = y.done.value; kept = λ x k ne. y.done.kept x k ne ∙ same x k } }

  yields_then : {mid : Code} (y : Yields w bs r from mid (Puts free d v r)) → Goes w.program w.depth (at w bs y.regs mid) (at w bs y.regs to)
      → Yields w bs r from to (Puts free d v r)
  yields_then y go = record { regs = y.regs; moves = moves_then y.moves go; done = y.done }

pub number : (bs : List RBlock) (c : Literal) (d free : ℕ) (after : Code) → Evaluates bs (constant c) free d (first (I.Const d c.value) after) after
number bs c d free after = gives (λ w l r v h e.
    let is : wrap c.value ≡ v = cc in
    yields_one (ap (λ x. at w bs (places_with r d (Some x)) after) is))

pub local_value : (bs : List RBlock) (x : ℕ) (k : IntegerType) (d free : ℕ) (after : Code)
    → Evaluates bs (local x k) free d (first (I.Move d x) after) after
local_value bs x k d free after = gives (λ w l r v h e.
    yields_one (with_some (r x) v w.output (λ v. at w bs (places_with r d (Some v)) after) (h.by x v e).1))

pub fetched : (bs : List RBlock) (e : TypedExpression) (free p : ℕ) (from to : Code) → Evaluates bs e free p from to → Fetches bs e free p from to
fetched bs e free p from to ev =
    record { by = λ w l r v h is. let y = ev.by w l r v h is in record { regs = y.regs; goes = goes_of y.moves; done = y.done } }

-- an element whose index is in a register
loads : (w : Surroundings) (bs : List RBlock) (r : Places) (d a p x v : ℕ) (after : Code) → r p ≡ Some x → element_at w.globals a x ≡ Some v
    → rtl_step w.program w.depth (at w bs r (first (I.Load d a p) after)) ≡ at w bs (places_with r d (Some v)) after
loads w bs r d a p x v after there is = rw (there, is) refl

-- a constant in a free register
sets : (w : Surroundings) (bs : List RBlock) (r : Places) (z c : ℕ) (after : Code)
    → Goes w.program w.depth (at w bs r (first (I.Const z c) after)) (at w bs (places_with r z (Some (wrap c))) after)
sets w bs r z c after = goes_one w.program w.depth _ _ refl

pub global_value : (bs : List RBlock) (a : ℕ) (k : IntegerType) (d z free : ℕ) (after : Code) → free ≤ z
    → Evaluates bs (global a k) free d (first (I.Const z 0) (first (I.Load d a z) after)) after
global_value bs a k d z free after le = gives (λ w l r v h e.
    let r1 = places_with r z (Some 0) in
    yields_after (sets w bs r z 0 _) (λ x lt. let ne : x ≢ z = omega arith in written_other r z (Some 0) x ne)
    (yields_one (loads w bs r1 d a z 0 v after (written_here r z (Some 0)) e)))

pub element_value : (bs : List RBlock) (a : ℕ) (k : IntegerType) (i : TypedExpression) (d free p next : ℕ) (from after : Code)
    → IsPlace i free p next → Fetches bs i free p from (first (I.Load d a p) after) → Evaluates bs (element a k i) free d from after
element_value bs a k i d free p next from after pl f = gives (λ w l r v h e.
    let c = chained (value_of i l w.globals) (λ x. element_at w.globals a x) v e in
    let y = taken w bs i free p next from _ l r c.value pl f h c.is in
    yields_after y.goes y.kept (yields_one (loads w bs y.regs d a p c.value v after y.value c.then_is)))

-- an operation at two registers
operated : (w : Surroundings) (bs : List RBlock) (r : Places) (t : Bool) (op : Op) (d p q x y v : ℕ) (after : Code) → r p ≡ Some x → r q ≡ Some y
    → (if t then op_result op y x else op_result op x y) ≡ Some v
    → rtl_step w.program w.depth (at w bs r (first (if t then I.Bin op d q p else I.Bin op d p q) after)) ≡ at w bs (places_with r d (Some v)) after
operated w bs r true op d p q x y v after ep eq ev = rw (ep, eq, ev) refl
operated w bs r false op d p q x y v after ep eq ev = rw (ep, eq, ev) refl

-- two operands and an operation
pub operates : (bs : List RBlock) (op : Operation) (a b : TypedExpression) (d free p next q last : ℕ) (from mid after : Code)
    → IsPlace a free p next → IsPlace b next q last → Fetches bs a free p from mid → Fetches bs b next q mid (first (inst_of op d p q) after)
    → Gives bs (at_values op a b) free d from after
operates bs op a b d free p next q last from mid after pa pb fa fb = gives (λ w l r v h e.
    let ca = chained (value_of a l w.globals) (λ x. chain (value_of b l w.globals) (λ y. result_of op x y)) v e in
    let cb = chained (value_of b l w.globals) (λ y. result_of op ca.value y) v ca.then_is in
    let ta = taken w bs a free p next from mid l r ca.value pa fa h ca.is in
    let tb = taken w bs b next q last mid _ l ta.regs cb.value pb fb (holds_kept free next l r ta.regs w.globals pa.rooms h ta.kept) cb.is in
    let x_there : tb.regs p ≡ Some ca.value = tb.kept p ta.held ∙ ta.value in
    yields_after (goes_then ta.goes tb.goes)
    (λ x k. let k' : x < next = omega (arith, pa.rooms) in tb.kept x k' ∙ ta.kept x k)
    (yields_one (operated w bs tb.regs op.turned op.op d p q ca.value cb.value v after x_there tb.value cb.then_is)))

pub at_both : (op : Operation) (a b : TypedExpression) (l : Places) (g : Arrays) (x y v : ℕ) → value_of a l g ≡ Some x → value_of b l g ≡ Some y
    → result_of op x y ≡ Some v → word_of (at_values op a b) l g ≡ Some v
at_both op a b l g x y v is_a is_b is = rw (is_a, is_b) is

-- an operator whose operands are both evaluated
pub operator_value : (bs : List RBlock) (o : BinaryOp) (k : IntegerType) (op : Operation) (a b : TypedExpression) (d free : ℕ) (from after : Code)
    → Computes o (sign_of k) op → Gives bs (at_values op a b) free d from after → Evaluates bs (binary o k a b) free d from after
operator_value bs o k op a b d free from after c o' = gives (λ w l r v h e.
    let g = w.globals in
    let t = both_valued o (sign_of k) (value_of a l g) (value_of b l g) v c.both e in
    o'.by w l r v h (at_both op a b l g t.x t.y v t.left_is t.right_is
    (c.by t.x t.y v (value-word a l g h.locals h.globals t.x t.left_is) (value-word b l g h.locals h.globals t.y t.right_is) t.is)))

-- an operation at a value and a constant
pub combines : (bs : List RBlock) (op : Operation) (e : TypedExpression) (c d free p next z : ℕ) (from after : Code) → IsPlace e free p next → next ≤ z
    → Fetches bs e free p from (first (I.Const z c) (first (inst_of op d p z) after)) → Gives bs (at_constant op e c) free d from after
combines bs op e c d free p next z from after pl le f = gives (λ w l r v h is.
    let ch = chained (value_of e l w.globals) (λ x. result_of op x (wrap c)) v is in
    let t = taken w bs e free p next from _ l r ch.value pl f h ch.is in
    let r1 = places_with t.regs z (Some (wrap c)) in
    let p_ne : p ≢ z = omega (arith, t.held) in
    let p_there : r1 p ≡ Some ch.value = written_other t.regs z (Some (wrap c)) p p_ne ∙ t.value in
    let z_there : r1 z ≡ Some (wrap c) = written_here t.regs z (Some (wrap c)) in
    yields_after (goes_then t.goes (sets w bs t.regs z c _))
    (λ y k. let ne : y ≢ z = omega (arith, pl.rooms) in written_other t.regs z (Some (wrap c)) y ne ∙ t.kept y k)
    (yields_one (operated w bs r1 op.turned op.op d p z ch.value (wrap c) v after p_there z_there ch.then_is)))

-- a prefix operator by an operation at a constant
pub prefix_value : (bs : List RBlock) (o : UnaryOp) (k : IntegerType) (with : Combination) (e : TypedExpression) (d free : ℕ) (from after : Code)
    → ComputesPrefix o with → Gives bs (at_constant with.operation e with.word) free d from after → Evaluates bs (unary o k e) free d from after
prefix_value bs o k with e d free from after fits o' = gives (λ w l r v h is.
    let g = w.globals in
    let ch = chained (value_of e l g) (λ x. unary_of o (sign_of k) x) v is in
    o'.by w l r v h (ap (λ o. chain o (λ x. result_of with.operation x (wrap with.word))) ch.is
    ∙ fits.by (sign_of k) ch.value v (value-word e l g h.locals h.globals ch.value ch.is) ch.then_is))

pub identity_value : (bs : List RBlock) (k : IntegerType) (e : TypedExpression) (d free : ℕ) (from after : Code)
    → Evaluates bs e free d from after → Evaluates bs (unary U.Identity k e) free d from after
identity_value bs k e d free from after ev = gives (λ w l r v h is.
    let ch = chained (value_of e l w.globals) (λ x. Some x) v is in
    ev.by w l r v h (ch.is ∙ ch.then_is))

-- operands of a list in their places
pub record TakenAll (w : Surroundings) (bs : List RBlock) (free : ℕ) (ps : List Place) (r : Places) (from to : Code) (vs : List ℕ) : Type 0 where
  pub regs : Places
  pub goes : Goes w.program w.depth (at w bs r from) (at w bs regs to)
  pub values : words_in regs (map (λ p. p.register) ps) ≡ Some vs
  pub kept : (x : ℕ) → x < free → regs x ≡ r x

pub taken_all : (w : Surroundings) (bs : List RBlock) (es : List TypedExpression) (ps : List Place) (free : ℕ) (from to : Code) (l r : Places) (vs : List ℕ)
    → ArePlaces es free ps → FetchAll bs es free ps from to → Holds free l r w.globals → values_of es l w.globals ≡ Some vs
    → TakenAll w bs free ps r from to vs
taken_all w bs [] [] free from to l r vs pl f h e = record {
  regs = r;
  goes = subst (λ c. Goes w.program w.depth (at w bs r from) (at w bs r c)) f (goes_nowhere w.program w.depth _);
  values = e;
  kept = λ x k. refl;
}
taken_all w bs (x ∷ es) (p ∷ ps) free from to l r vs pl f h e =
    let c = chained (value_of x l w.globals) (λ v. chain (values_of es l w.globals) (λ vs. Some (v ∷ vs))) vs e in
    let c2 = chained (values_of es l w.globals) (λ vs. Some (c.value ∷ vs)) vs c.then_is in
    let t = taken w bs x free p.register p.free from f.0 l r c.value pl.0 f.1 h c.is in
    let a = taken_all w bs es ps p.free f.0 to l t.regs c2.value pl.1 f.2 (holds_kept free p.free l r t.regs w.globals pl.0.rooms h t.kept) c2.is in
    let there : a.regs p.register ≡ Some c.value = a.kept p.register t.held ∙ t.value in
    record {
      regs = a.regs;
      goes = goes_then t.goes a.goes;
      values = rw (there, a.values) c2.then_is;
      kept = λ y k. let k' : y < p.free = omega (arith, pl.0.rooms) in a.kept y k' ∙ t.kept y k;
    }
taken_all w bs _ _ free from to l r vs pl f h e = absurd pl

-- a branch, by the word in a register
branch : (w : Surroundings) (bs : List RBlock) (p yes_block no_block : ℕ) (r : Places) (v : ℕ) → r p ≡ Some v
    → rtl_step w.program w.depth (at w bs r (exit_code (X.Branch p yes_block no_block)))
    ≡ state_at_block w bs r (if nat_eq v 0 then no_block else yes_block)
branch w bs p yes_block no_block r v e = rw e refl

-- the code of a block, where a condition has arrived
enters : {w : Surroundings} {bs : List RBlock} {free : ℕ} {r : Places} {from code : Code} {side : ℕ} (ar : Arrives w bs free r from side) → At bs side code
    → Moves w.program w.depth (at w bs r from) (at w bs ar.regs code)
enters {w} {bs} {r = r} {from = from} ar a = subst (λ s. Moves w.program w.depth (at w bs r from) s) (jump_to a w ar.regs) ar.moves

-- on from the block that a first condition led to
arrives_then : {w : Surroundings} {bs : List RBlock} {free : ℕ} {r : Places} {from second_code : Code} {second to : ℕ} (a : Arrives w bs free r from second)
    → At bs second second_code → Arrives w bs free a.regs second_code to → Arrives w bs free r from to
arrives_then a ats b = record { regs = b.regs; moves = moves_then (enters a ats) (goes_of b.moves); kept = λ x k. b.kept x k ∙ a.kept x k }

pub constant_decides : (bs : List RBlock) (c : Literal) (target yes_block no_block free : ℕ) → target
    ≡ (if nat_eq (wrap c.value) 0 then no_block else yes_block)
    → Decides bs (constant c) free yes_block no_block (goto target)
constant_decides bs c target yes_block no_block free t = decides (λ w l r v h e.
    let is : wrap c.value ≡ v = cc in
    subst (λ c. Arrives w bs free r (goto target) c) (t ∙ ap (λ v. if nat_eq v 0 then no_block else yes_block) is)
    (record { regs = r; moves = moves_one refl; kept = λ x k. refl }))

-- one of two blocks, by the truth of a word
pub flipped : (z : Bool) (c d : ℕ) → (if nat_eq (truth z) 0 then c else d) ≡ (if z then d else c)
flipped true c d = refl
flipped false c d = refl

pub same_way : (z : Bool) (c d : ℕ) → (if nat_eq (truth (not z)) 0 then c else d) ≡ (if z then c else d)
same_way true c d = refl
same_way false c d = refl

-- a contrary test, which goes the other way
pub negated_decides : (bs : List RBlock) (e : TypedExpression) (z yes_block no_block free : ℕ) (from : Code) → free ≤ z
    → Gives bs (at_constant (straight_op O.Eq) e 0) free z from (exit_code (X.Branch z no_block yes_block)) → Decides bs e free yes_block no_block from
negated_decides bs e z yes_block no_block free from le ne = decides (λ w l r v h is.
    let y = ne.by w l r (truth (nat_eq v 0)) h (ap (λ o. chain o (λ x. result_of (straight_op O.Eq) x 0)) is) in
    subst (λ c. Arrives w bs free r from c) (flipped (nat_eq v 0) yes_block no_block) (record {
      regs = y.regs;
      moves = moves_then y.moves (goes_one w.program w.depth _ _ (branch w bs z no_block yes_block y.regs (truth (nat_eq v 0)) y.done.value));
      kept = λ x k. let ne : x ≢ z = omega arith in y.done.kept x k ne;
    }))

pub contrary_decides : (bs : List RBlock) (o : BinaryOp) (k : IntegerType) (op : Operation) (a b : TypedExpression) (z yes_block no_block free : ℕ)
    (from : Code)
    → ComputesContrary o (sign_of k) op → free ≤ z → Gives bs (at_values op a b) free z from (exit_code (X.Branch z no_block yes_block))
    → Decides bs (binary o k a b) free yes_block no_block from
contrary_decides bs o k op a b z yes_block no_block free from tests le o' = decides (λ w l r v h e.
    let c = both_valued o (sign_of k) (value_of a l w.globals) (value_of b l w.globals) v tests.both e in
    let t = tests.by c.x c.y in
    let some : Some (truth t.0) ≡ Some v = sym t.1 ∙ c.is in
    let is : truth t.0 ≡ v = cc in
    let y = o'.by w l r (truth (not t.0)) h (at_both op a b l w.globals c.x c.y (truth (not t.0)) c.left_is c.right_is t.2) in
    subst (λ c. Arrives w bs free r from c) (same_way t.0 yes_block no_block ∙ sym (flipped t.0 no_block yes_block)
    ∙ ap (λ v. if nat_eq v 0 then no_block else yes_block) is) (record {
      regs = y.regs;
      moves = moves_then y.moves (goes_one w.program w.depth _ _ (branch w bs z no_block yes_block y.regs (truth (not t.0)) y.done.value));
      kept = λ x k. let ne : x ≢ z = omega arith in y.done.kept x k ne;
    }))

pub plain_decides : (bs : List RBlock) (e : TypedExpression) (p yes_block no_block free next : ℕ) (from : Code) → IsPlace e free p next
    → Fetches bs e free p from (exit_code (X.Branch p yes_block no_block)) → Decides bs e free yes_block no_block from
plain_decides bs e p yes_block no_block free next from pl f = decides (λ w l r v h is.
    let t = taken w bs e free p next from _ l r v pl f h is in
    record { regs = t.regs; moves = moves_after t.goes (moves_one (branch w bs p yes_block no_block t.regs v t.value)); kept = t.kept })

pub not_decides : (bs : List RBlock) (k : IntegerType) (a : TypedExpression) (yes_block no_block free : ℕ) (from : Code)
    → Decides bs a free no_block yes_block from → Decides bs (unary U.Not k a) free yes_block no_block from
not_decides bs k a yes_block no_block free from da = decides (λ w l r v h e.
    let c = chained (value_of a l w.globals) (λ x. Some (truth (nat_eq x 0))) v e in
    let is : truth (nat_eq c.value 0) ≡ v = cc in
    subst (λ c. Arrives w bs free r from c) (sym (flipped (nat_eq c.value 0) no_block yes_block) ∙ ap (λ v. if nat_eq v 0 then no_block else yes_block) is)
    (da.by w l r c.value h c.is))

-- the second operand of `&&` or `||`, to which the first one led
second_decides : (bs : List RBlock) (b : TypedExpression) (yes_block no_block second free : ℕ) (from second_code : Code) → At bs second second_code
    → Decides bs b free yes_block no_block second_code → (w : Surroundings) (l r : Places) (v : ℕ) → Holds free l r w.globals
    → chain (value_of b l w.globals) (λ y. Some (truth (not (nat_eq y 0)))) ≡ Some v → Arrives w bs free r from second
    → Arrives w bs free r from (if nat_eq v 0 then no_block else yes_block)
second_decides bs b yes_block no_block second free from second_code ats db w l r v h e ar =
    let c = chained (value_of b l w.globals) (λ y. Some (truth (not (nat_eq y 0)))) v e in
    let is : truth (not (nat_eq c.value 0)) ≡ v = cc in
    subst (λ c. Arrives w bs free r from c) (sym (same_way (nat_eq c.value 0) no_block yes_block) ∙ ap (λ v. if nat_eq v 0 then no_block else yes_block) is)
    (arrives_then ar ats (db.by w l ar.regs c.value (holds_kept free free l r ar.regs w.globals (omega arith) h ar.kept) c.is))

-- by a first condition, which leads one way or the other
by_first : {Goal : Type 0} (w : Surroundings) (bs : List RBlock) (free : ℕ) (r : Places) (from : Code) (o : Option ℕ) (yes_block no_block : ℕ)
    (on : Bool → Option ℕ) (v : ℕ) → chain o (λ x. on (nat_eq x 0)) ≡ Some v
    → ((x : ℕ) → o ≡ Some x → Arrives w bs free r from (if nat_eq x 0 then no_block else yes_block))
    → (on true ≡ Some v → Arrives w bs free r from no_block → Goal) → (on false ≡ Some v → Arrives w bs free r from yes_block → Goal) → Goal
by_first {Goal} w bs free r from o yes_block no_block on v e leads zero some =
    let c = chained o (λ x. on (nat_eq x 0)) v e in
    by (nat_eq c.value 0) c.then_is (leads c.value c.is)
  where
    by : (z : Bool) → on z ≡ Some v → Arrives w bs free r from (if z then no_block else yes_block) → Goal
    by true = zero
    by false = some

pub and_decides : (bs : List RBlock) (k : IntegerType) (a b : TypedExpression) (yes_block no_block second free : ℕ) (from second_code : Code)
    → Decides bs a free second no_block from → At bs second second_code → Decides bs b free yes_block no_block second_code
    → Decides bs (binary B.LogicalAnd k a b) free yes_block no_block from
and_decides bs k a b yes_block no_block second free from second_code da ats db =
    decides (λ w l r v h e. by_first w bs free r from (value_of a l w.globals) second no_block
    (λ z. if z then Some 0 else chain (value_of b l w.globals) (λ y. Some (truth (not (nat_eq y 0))))) v e (λ x is. da.by w l r x h is)
    (λ e ar. let is : 0 ≡ v = cc in subst (λ v. Arrives w bs free r from (if nat_eq v 0 then no_block else yes_block)) is ar)
    (second_decides bs b yes_block no_block second free from second_code ats db w l r v h))

pub or_decides : (bs : List RBlock) (k : IntegerType) (a b : TypedExpression) (yes_block no_block second free : ℕ) (from second_code : Code)
    → Decides bs a free yes_block second from → At bs second second_code → Decides bs b free yes_block no_block second_code
    → Decides bs (binary B.LogicalOr k a b) free yes_block no_block from
or_decides bs k a b yes_block no_block second free from second_code da ats db =
    decides (λ w l r v h e. by_first w bs free r from (value_of a l w.globals) yes_block second
    (λ z. if z then chain (value_of b l w.globals) (λ y. Some (truth (not (nat_eq y 0)))) else Some 1) v e (λ x is. da.by w l r x h is)
    (second_decides bs b yes_block no_block second free from second_code ats db w l r v h)
    (λ e ar. let is : 1 ≡ v = cc in subst (λ v. Arrives w bs free r from (if nat_eq v 0 then no_block else yes_block)) is ar))

pub conditional_decides : (bs : List RBlock) (k : IntegerType) (c a b : TypedExpression) (yes_block no_block y n free : ℕ) (from y_code n_code : Code)
    → Decides bs c free y n from → At bs y y_code → At bs n n_code → Decides bs a free yes_block no_block y_code
    → Decides bs b free yes_block no_block n_code
    → Decides bs (conditional k c a b) free yes_block no_block from
conditional_decides bs k c a b yes_block no_block y n free from y_code n_code dc aty atn da db =
    decides (λ w l r v h e. by_first w bs free r from (value_of c l w.globals) y n
    (λ z. if z then value_of b l w.globals else value_of a l w.globals) v e (λ x is. dc.by w l r x h is)
    (λ e ar. arrives_then ar atn (db.by w l ar.regs v (holds_kept free free l r ar.regs w.globals (omega arith) h ar.kept) e))
    (λ e ar. arrives_then ar aty (da.by w l ar.regs v (holds_kept free free l r ar.regs w.globals (omega arith) h ar.kept) e)))

-- values by conditions

-- a constant in a block, and on to a spot
const_jump : (w : Surroundings) (bs : List RBlock) (free d x join side : ℕ) (after : Spot) (r0 : Places) (from : Code) → wrap x ≡ x → Lands bs join after
    → At bs side (first (I.Const d x) (goto join)) → (ar : Arrives w bs free r0 from side) → Yields w bs r0 from (line_of after) (Puts free d x r0)
const_jump w bs free d x join side after r0 from small aj side_at ar =
    let in_side = enters ar side_at in
    let write : Goes w.program w.depth (at w bs ar.regs (first (I.Const d x) (goto join))) (at w bs (places_with ar.regs d (Some x)) (goto join)) =
    goes_one w.program w.depth _ _ (ap (λ x. at w bs (places_with ar.regs d (Some x)) (goto join)) small) in
    record {
      regs = places_with ar.regs d (Some x);
      moves = moves_then in_side (goes_then write (joins w join after aj (places_with ar.regs d (Some x))));
      done = record { value = written_here ar.regs d (Some x); kept = λ y k ne. written_other ar.regs d (Some x) y ne ∙ ar.kept y k };
    }

-- an expression whose value is 0 or 1
abbrev pub IsTest : TypedExpression → Type 0
IsTest e = (l : Places) (g : Arrays) (v : ℕ) → value_of e l g ≡ Some v → (if nat_eq v 0 then 0 else 1) ≡ v

bit : (z : Bool) → (if nat_eq (truth z) 0 then 0 else 1) ≡ truth z
bit true = refl
bit false = refl

bit_of : (z : Bool) (v : ℕ) → Some (truth z) ≡ Some v → (if nat_eq v 0 then 0 else 1) ≡ v
bit_of z v e = let is : truth z ≡ v = cc in subst (λ v. (if nat_eq v 0 then 0 else 1) ≡ v) is (bit z)

pub not_tests : (k : IntegerType) (a : TypedExpression) → IsTest (unary U.Not k a)
not_tests k a l g v e = let c = chained (value_of a l g) (λ x. Some (truth (nat_eq x 0))) v e in bit_of (nat_eq c.value 0) v c.then_is

pub and_tests : (k : IntegerType) (a b : TypedExpression) → IsTest (binary B.LogicalAnd k a b)
and_tests k a b l g v e =
    let c = chained (value_of a l g) (λ x. if nat_eq x 0 then Some 0 else chain (value_of b l g) (λ y. Some (truth (not (nat_eq y 0))))) v e in
    by (nat_eq c.value 0) c.then_is
  where
    by : (z : Bool) → (if z then Some 0 else chain (value_of b l g) (λ y. Some (truth (not (nat_eq y 0))))) ≡ Some v → (if nat_eq v 0 then 0 else 1) ≡ v
    by true e = bit_of false v e
    by false e = let c = chained (value_of b l g) (λ y. Some (truth (not (nat_eq y 0)))) v e in bit_of (not (nat_eq c.value 0)) v c.then_is

pub or_tests : (k : IntegerType) (a b : TypedExpression) → IsTest (binary B.LogicalOr k a b)
or_tests k a b l g v e =
    let c = chained (value_of a l g) (λ x. if nat_eq x 0 then chain (value_of b l g) (λ y. Some (truth (not (nat_eq y 0)))) else Some 1) v e in
    by (nat_eq c.value 0) c.then_is
  where
    by : (z : Bool) → (if z then chain (value_of b l g) (λ y. Some (truth (not (nat_eq y 0)))) else Some 1) ≡ Some v → (if nat_eq v 0 then 0 else 1) ≡ v
    by false e = bit_of true v e
    by true e = let c = chained (value_of b l g) (λ y. Some (truth (not (nat_eq y 0)))) v e in bit_of (not (nat_eq c.value 0)) v c.then_is

pub told : (bs : List RBlock) (e : TypedExpression) (d yes_block no_block free : ℕ) (from : Code) (after : Spot) → IsTest e
    → IsTruth bs d yes_block no_block after
    → Decides bs e free yes_block no_block from → Evaluates bs e free d from (line_of after)
told bs e d yes_block no_block free from after test t de = gives (λ w l r v h is. by w r v (nat_eq v 0) (test l w.globals v is) (de.by w l r v h is))
  where
    by : (w : Surroundings) (r : Places) (v : ℕ) (z : Bool) → (if z then 0 else 1) ≡ v → Arrives w bs free r from (if z then no_block else yes_block)
        → Yields w bs r from (line_of after) (Puts free d v r)
    by w r v true is ar = subst (λ v. Yields w bs r from (line_of after) (Puts free d v r)) is
        (const_jump w bs free d 0 t.join no_block after r from refl t.joined t.no_at ar)
    by w r v false is ar = subst (λ v. Yields w bs r from (line_of after) (Puts free d v r)) is
        (const_jump w bs free d 1 t.join yes_block after r from refl t.joined t.yes_at ar)

pub conditional_value : (bs : List RBlock) (k : IntegerType) (c a b : TypedExpression) (d join y n free : ℕ) (from : Code) (after : Spot)
    (y_code n_code : Code)
    → Lands bs join after → At bs y y_code → At bs n n_code → Decides bs c free y n from
    → Evaluates bs a free d y_code (goto join) → Evaluates bs b free d n_code (goto join) → Evaluates bs (conditional k c a b) free d from (line_of after)
conditional_value bs k c a b d join y n free from after y_code n_code aj aty atn dc ea eb =
    gives (λ w l r v h e. by_first w bs free r from (value_of c l w.globals) y n
    (λ z. if z then value_of b l w.globals else value_of a l w.globals) v e (λ x is. dc.by w l r x h is)
    (λ e ar. through w r n_code n v atn ar (eb.by w l ar.regs v (holds_kept free free l r ar.regs w.globals (omega arith) h ar.kept) e))
    (λ e ar. through w r y_code y v aty ar (ea.by w l ar.regs v (holds_kept free free l r ar.regs w.globals (omega arith) h ar.kept) e)))
  where
    through : (w : Surroundings) (r : Places) (side_code : Code) (side : ℕ) (v : ℕ) → At bs side side_code → (ar : Arrives w bs free r from side)
        → Yields w bs ar.regs side_code (goto join) (Puts free d v ar.regs) → Yields w bs r from (line_of after) (Puts free d v r)
    through w r side_code side v ats ar y =
        yields_after (goes_of (enters ar ats)) ar.kept (yields_then y (joins w join after aj y.regs))
