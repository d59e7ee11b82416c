-- Steps of a program of blocks, put together.
use Rattle.std.proofs.Common.{◌≡◌, ◌≢◌, ℕ, suc, ◌+◌, ◌<◌, ◌≤◌, List, Option, Some, None, refl, sym, ◌∙◌, ap, arith, eq-eqb, ne_eqb}
use Rattle.std.specs.Prelude.{slice_get, if◌then◌else◌}
use Rattle.runs.specs.Stores.{Places, Arrays, places_with, chain}
use Rattle.runs.specs.Runs.{Configuration, with_value}
use Rattle.runs.proofs.Steps.{steps-add}
use Rattle.words.specs.declared.sign.Sign.{Sign}
use Rattle.c_tree.specs.declared.tree.BinaryOp.{BinaryOp}
use Rattle.c_typed.specs.Values.{binary_of, binary_value}
use Rattle.rtl.specs.Programs.{Program}
use Rattle.rtl.specs.Meaning.{Code, Run, Surroundings, at, rtl_step, rtl_steps, state_at_block, code_of}
use Rattle.rtl.specs.declared.block.RBlock.{RBlock}
use Rattle.rtl_emit.specs.Blocks.{goto, Spot, Block, Line, line_of, Lands, At}
use Rattle.rtl_emit.specs.Operations.{EvaluatesBoth}
use Rattle.rtl_emit.specs.Runs.{Goes, Moves, Holds}

pub goes_nowhere : (p : Program) (depth : ℕ) (s : Run) → Goes p depth s s
goes_nowhere p depth s = record { count = 0; ends = refl }

pub goes_then : {p : Program} {depth : ℕ} {s t u : Run} → Goes p depth s t → Goes p depth t u → Goes p depth s u
goes_then {p} {depth} {s} a b = record {
  count = a.count + b.count;
  ends = steps-add (rtl_step p depth) a.count b.count s ∙ ap (rtl_steps p depth b.count) a.ends ∙ b.ends;
}

pub goes_one : (p : Program) (depth : ℕ) (s t : Run) → rtl_step p depth s ≡ t → Goes p depth s t
goes_one p depth s t e = record { count = 1; ends = e }

pub moves_one : {p : Program} {depth : ℕ} {s t : Run} → rtl_step p depth s ≡ t → Moves p depth s t
moves_one e = record { more = 0; ends = e }

pub goes_of : {p : Program} {depth : ℕ} {s t : Run} → Moves p depth s t → Goes p depth s t
goes_of a = record { count = suc a.more; ends = a.ends }

pub moves_then : {p : Program} {depth : ℕ} {s t u : Run} → Moves p depth s t → Goes p depth t u → Moves p depth s u
unfolding goes_of goes_then
moves_then {p} {depth} {s} a b = let all = goes_then (goes_of a) b in record {
  more = a.more + b.count;
  ends = let e : suc (a.more + b.count) ≡ suc a.more + b.count = omega arith in ap (λ n. rtl_steps p depth n s) e ∙ all.ends;
}

pub moves_after : {p : Program} {depth : ℕ} {s t u : Run} → Goes p depth s t → Moves p depth t u → Moves p depth s u
unfolding goes_of goes_then
moves_after {p} {depth} {s} a b = let all = goes_then a (goes_of b) in record {
  more = a.count + b.more;
  ends = let e : suc (a.count + b.more) ≡ a.count + suc b.more = omega arith in ap (λ n. rtl_steps p depth n s) e ∙ all.ends;
}

pub with_some : {C A : Type 0} (o : Option A) (a : A) (out : List ℕ) (go : A → Configuration C) → o ≡ Some a → with_value o out go ≡ go a
with_some o a out go e = ap (λ o. with_value o out go) e

pub record Chained {A B : Type 0} (o : Option A) (f : A → Option B) (b : B) : Type 0 where
  pub value : A
  pub is : o ≡ Some value
  pub then_is : f value ≡ Some b

pub chained : {A B : Type 0} (o : Option A) (f : A → Option B) (b : B) → chain o f ≡ Some b → Chained o f b
chained None f b e = cc
chained (Some a) f b e = record { value = a; is = refl; then_is = e }

-- the values of two operands that are both evaluated, the left one first
pub record BothValued (o : BinaryOp) (s : Sign) (left right : Option ℕ) (v : ℕ) : Type 0 where
  pub x : ℕ
  pub y : ℕ
  pub left_is : left ≡ Some x
  pub right_is : right ≡ Some y
  pub is : binary_of o s x y ≡ Some v

pub both_valued : (o : BinaryOp) (s : Sign) (left right : Option ℕ) (v : ℕ) → EvaluatesBoth o s → binary_value o s left right ≡ Some v
    → BothValued o s left right v
both_valued o s left right v both e =
    let a = chained left (λ x. chain right (λ y. binary_of o s x y)) v (sym (both left right) ∙ e) in
    let b = chained right (λ y. binary_of o s a.value y) v a.then_is in
    record { x = a.value; y = b.value; left_is = a.is; right_is = b.is; is = b.then_is }

pub written_here : (r : Places) (t : ℕ) (v : Option ℕ) → places_with r t v t ≡ v
written_here r t v = ap (λ c. if c then v else r t) (eq-eqb t t refl)

pub written_other : (r : Places) (t : ℕ) (v : Option ℕ) (x : ℕ) → x ≢ t → places_with r t v x ≡ r x
written_other r t v x ne = ap (λ c. if c then v else r x) (ne_eqb x t ne)

pub jump_to : {bs : List RBlock} {b : ℕ} {c : Code} → At bs b c → (w : Surroundings) (r : Places) → state_at_block w bs r b ≡ at w bs r c
jump_to {bs} {b} {c} there w r =
    with_some (slice_get bs b) there.block w.output (λ block. at w bs r (code_of block)) there.there ∙ ap (at w bs r) there.is

-- the registers of locals are the same, so they still hold the locals
pub holds_kept : (free next : ℕ) (l r r' : Places) (g : Arrays) → free ≤ next → Holds free l r g → ((x : ℕ) → x < free → r' x ≡ r x) → Holds next l r' g
holds_kept free next l r r' g le h same = record {
  by = λ x v e. let b = h.by x v e in (omega (arith, b.0), same x b.0 ∙ b.1);
  locals = h.locals;
  globals = h.globals;
}

-- a jump to it, or to the spot at once
pub joins : {bs : List RBlock} (w : Surroundings) (b : ℕ) (s : Spot) → Lands bs b s → (r : Places)
    → Goes w.program w.depth (at w bs r (goto b)) (at w bs r (line_of s))
joins {bs} w b (Block b') l r = record { count = 0; ends = ap (λ b. at w bs r (goto b)) l }
joins {bs} w b (Line c) l r = goes_one w.program w.depth _ _ (jump_to l w r)
