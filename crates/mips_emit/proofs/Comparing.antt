-- A comparison that is one with the branch on its result does what the comparison does.
use Rattle.std.proofs.Common.{◌≡◌, ℕ, ◌^◌, ◌<◌, ◌≤◌, ◌==◌, Bool, true, false, List, [], ◌∷◌, ◌++◌, length, Option, Some, None, refl, sym, ap, ap₂, ◌∙◌, subst}
use Rattle.std.proofs.Common.{arith, nat_eq, eq-eqb, eqb-true, true≢false}
use Rattle.std.specs.Prelude.{◌&&◌, not, slice_get}
use Rattle.std.proofs.lemmas.Int.{ints}
use Rattle.std.proofs.lemmas.Bool.Decides.{nat_tests}
use Rattle.std.proofs.lemmas.Option.{same_Some, none-some}
use Rattle.std.proofs.lemmas.Bool.{and_parts, not-true, cond_both}
use Rattle.words.specs.declared.sign.Sign.{Sign}
use Rattle.words.specs.declared.sign.Sign.TheVariants.{Signed, Unsigned}
use Rattle.words.specs.C.{is_below}
use Rattle.runs.specs.Stores.{Places, places_with, Arrays}
use Rattle.mips_isa.specs.declared.inst.PairTest.{PairTest}
use Rattle.mips_isa.specs.declared.inst.PairTest.TheVariants.{Equal, NotEqual}
use Rattle.mips_isa.specs.declared.inst.ZeroTest.{ZeroTest}
use Rattle.mips_isa.specs.declared.inst.ZeroTest.TheVariants.{AtMostZero, AboveZero, BelowZero, AtLeastZero}
use Rattle.mips_isa.specs.declared.inst.Plain.{Plain}
use Rattle.mips_isa.specs.States.{State, read}
use Rattle.mips_isa.specs.Controls.{pair_passes, zero_passes}
use Rattle.rtl.specs.declared.operator.Op.{Op}
use Rattle.rtl.specs.declared.operator.Op.TheVariants.{Eq, Ne, LtS, LtU, LeS, LeU}
use Rattle.rtl.specs.declared.instruction.RInst.{RInst}
use Rattle.rtl.specs.declared.instruction.RInst.TheVariants.{Bin}
use Rattle.rtl.specs.declared.block.RGlobal.{RGlobal}
use Rattle.rtl.specs.Operators.{truth_word, op_result}
use Rattle.rtl.proofs.Results.{result-word}
use Rattle.mips_homes.specs.HomedRun.{cells, is_callee_saved, Run, Failed, with_value, write_at, read_home, with_inst}
use Rattle.mips_homes.specs.declared.homed.Home.{Home}
use Rattle.mips_homes.specs.declared.homed.Home.TheVariants.{Reg}
use Rattle.mips_emit.specs.declared.location.Source.{Source}
use Rattle.mips_emit.specs.declared.comparison.Form.{Form}
use Rattle.mips_emit.specs.declared.comparison.Form.TheVariants.{Known, OnPair, OnLeft, OnRight, ByResult, ByOpposite, InResult}
use Rattle.mips_emit.specs.declared.comparison.Asked.{Asked}
use Rattle.mips_emit.specs.declared.comparison.Asked.TheVariants.{Nothing, Branched, Returned}
use Rattle.mips_emit.specs.declared.comparison.Comparison.{Comparison}
use Rattle.mips_emit.specs.Frames.{AreFrameHomes}
use Rattle.mips_emit.specs.Locations.{Locations, Facts, known_in}
use Rattle.mips_emit.specs.Code.{known_operand, operand_with, nop, fetch, operand_register}
use Rattle.std.specs.Option.{option_map, option_map_or}
use Rattle.mips_emit.specs.Comparisons.{is_known_zero, is_immediate, opposite_if, form_of, known_truth, opposite_op, code_by_form}
use Rattle.mips_emit.specs.Comparisons.{comparison_code, is_asked, is_caller_saved, form_for, comparison_of, last_with, is_result, returned}
use Rattle.mips_emit.proofs.Runs.{RunsTo, if_some, runs_then}
use Rattle.mips_emit.proofs.View.{t2}
use Rattle.mips_emit.proofs.Stands.{Stored, Stands}
use Rattle.mips_emit.proofs.Operands.{passes, IsLast, none_fresh, IsKnown, operand_register_kept, longer_behind, runs_nop, hide, AreDeferred, defers}
use Rattle.mips_emit.proofs.Homes.{fewer_stand, fetches, ends_stands}
use Rattle.mips_emit.proofs.Insts.{Computed, value_or_failed, IsOperand, computes, operand_is}

-- ---- truth words

-- what a result says that is a truth word
said : (b : Bool) (u : ℕ) → Some (truth_word b) ≡ Some u → b ≡ not (nat_eq u 0)
said b u e = grind (arith, nat_tests)

said_opposite : (b : Bool) (u : ℕ) → Some (truth_word b) ≡ Some u → nat_eq (truth_word (not b)) 0 ≡ not (nat_eq u 0)
said_opposite b u e = grind (arith, nat_tests)

opposite_said : (b : Bool) (u : ℕ) → Some (truth_word (not b)) ≡ Some u → nat_eq (truth_word b) 0 ≡ not (nat_eq u 0)
opposite_said b u e = grind (arith, nat_tests)

-- ---- the sign of a word

signs : (w : ℕ) → w < 2 ^ 32 → (zero_passes AboveZero w ≡ is_below Signed 0 w) × (zero_passes BelowZero w ≡ is_below Signed w 0)
    × (zero_passes AtMostZero w ≡ not (is_below Signed 0 w)) × (zero_passes AtLeastZero w ≡ not (is_below Signed w 0))
signs w lt = (grind (arith, ints), grind (arith, ints), grind (arith, ints), grind (arith, ints))

known_zero : (k : Option ℕ) (v : ℕ) → ((c : ℕ) → k ≡ Some c → c ≡ v) → is_known_zero k ≡ true → v ≡ 0
known_zero None v said is = absurd (true≢false (sym is))
known_zero (Some c) v said is = sym (said c refl) ∙ eqb-true c 0 is

abbrev comparison_at : Locations → Facts → Op → (d a b : ℕ) → Form → Comparison
comparison_at at facts op d a b form = record { result = d; op = op; form = form; left = operand_with at facts a; right = operand_with at facts b }

-- a comparison has the form that was found for it
comparison_is : (at : Locations) (facts : Facts) (op : Op) (d a b : ℕ) (o : Option Form) (m : Comparison)
    → option_map (comparison_at at facts op d a b) o ≡ Some m → (o ≡ Some m.form) × (comparison_at at facts op d a b m.form ≡ m)
comparison_is at facts op d a b None m e = absurd (none-some m e)
comparison_is at facts op d a b (Some form) m e = rw (same_Some m _ (sym e)) (refl, refl)

-- an operator that is one with an exit is what the exit asks for, in the form that it has there
operator_asked : (at : Locations) (facts : Facts) (asked : Asked) (op : Op) (d a b : ℕ) (m : Comparison)
    → comparison_of at facts asked (Bin op d a b) ≡ Some m
    → (is_asked asked d ≡ true) × (is_caller_saved (at d) ≡ true) × (form_for asked op (known_in facts a) (known_in facts b) ≡ Some m.form)
    × (comparison_at at facts op d a b m.form ≡ m)
operator_asked at facts asked op d a b m e =
    let there = if_some (is_asked asked d && is_caller_saved (at d)) _ m e in
    let parts = and_parts (is_asked asked d) (is_caller_saved (at d)) there.0 in
    let is = comparison_is at facts op d a b (form_for asked op (known_in facts a) (known_in facts b)) m there.1 in
    (parts.0, parts.1, is.0, is.1)

asked_for : (at : Locations) (facts : Facts) (asked : Asked) (i : RInst) (m : Comparison) → comparison_of at facts asked i ≡ Some m
    → (is_asked asked m.result ≡ true) × (form_for asked m.op m.left.known m.right.known ≡ Some m.form)
asked_for at facts asked (Bin op d a b) m e = let it = operator_asked at facts asked op d a b m e in rw (← it.3) (it.0, it.2)
asked_for at facts asked _ m e = absurd (none-some m e)

-- nothing is one with a branch that doesn't stand behind it
pub none_asked : (at : Locations) (facts : Facts) (i : RInst) (m : Comparison) → comparison_of at facts Nothing i ≡ Some m → ⊥
none_asked at facts i m e = true≢false (sym (asked_for at facts Nothing i m e).0)

-- it is what the branch goes by
pub asked_result : (at : Locations) (facts : Facts) (c : ℕ) (i : RInst) (m : Comparison) → comparison_of at facts (Branched c) i ≡ Some m → nat_eq m.result c ≡ true
asked_result at facts c i m e = eq-eqb m.result c (sym (eqb-true c m.result (asked_for at facts (Branched c) i m e).0))

-- what a return goes by is in register 2
pub returned_result : (at : Locations) (facts : Facts) (c : ℕ) (i : RInst) (m : Comparison) → comparison_of at facts (Returned c) i ≡ Some m
    → returned (Some m) c ≡ true
returned_result at facts c i m e =
    let is = asked_for at facts (Returned c) i m e in
    ap₂ (λ form b. is_result form && b) (sym (same_Some InResult m.form is.1)) (eq-eqb m.result c (sym (eqb-true c m.result is.0)))

-- what is known then: nothing but that a register doesn't hold its word
abbrev pub waiting : Facts → (q u : ℕ) → Facts
waiting facts q u = record { known = []; deferred = places_with facts.deferred q (Some u); kept = None; offset = None }

-- what is left then is the comparison alone, whose result would be in register q
is_waiting : {hs : List Home} (registers slots : Places) {s : State} (m : Comparison) (q u : ℕ) → slice_get hs m.result ≡ Some (Reg q)
    → passes m.form m.left.source m.right.source s ≡ not (nat_eq u 0) → (is_result m.form ≡ true → s.regs 2 ≡ u)
    → IsLast (last_with (Some m) None) hs (places_with registers q (Some u)) slots s
is_waiting {hs} registers slots {s} m q u at tells result = record {
  fresh = none_fresh hs (places_with registers q (Some u)) slots s;
  comparison = λ n c same holds. (let is = same_Some n m (sym same) in rw is (tells ∙ ap (λ u. not (nat_eq u 0)) (there c (rw is at holds))));
  result = λ n c same is_it holds. (let is = same_Some n m (sym same) in result (rw is at is_it) ∙ there c (rw is at holds));
}
  where
    there : (c : ℕ) → read_home hs (places_with registers q (Some u)) slots m.result ≡ Some c → u ≡ c
    there c holds = same_Some u c (rw (at, eq-eqb q q refl) at holds)

-- a home that no other block reads is a register
saved_register : (o : Option Home) → is_caller_saved o ≡ true → (q : ℕ) × (o ≡ Some (Reg q)) × (is_callee_saved q ≡ false)
saved_register (Some (Reg q)) e = (q, refl, not-true (is_callee_saved q) e)
saved_register _ e = absurd (true≢false (sym e))

module _ {most total : ℕ} {gs : List RGlobal} {starts : ℕ → ℕ} where
  module _ {registers : Places} {g : Arrays} {top : Stored} {fs : List Stored} {s : State} (h : Stands most total gs starts registers g (top ∷ fs) s) where
    -- code behind which a branch tells a word
    pub record Decided (is : List Plain) (form : Form) (x y : Source) (u : ℕ) : Type 0 where
      pub to : State
      pub runs : RunsTo is s to
      pub some : 1 ≤ length is
      pub stands : Stands most total gs starts registers g (top ∷ fs) to
      pub tells : passes form x y to ≡ not (nat_eq u 0)
      pub result : is_result form ≡ true → to.regs 2 ≡ u

    module _ {k l : Option ℕ} {x y : Source} {v w : ℕ} (u : ℕ) (x_is : IsOperand h k x v) (y_is : IsOperand h l y w) where
      abbrev Given : Op → Form → Type 0
      Given op form = Decided (code_by_form form op (known_operand k x) (known_operand l y)) form x y u

      on_pair : (test : PairTest) → pair_passes test v w ≡ not (nat_eq u 0) → Decided (fetch 1 x ++ (fetch 3 y ++ nop ∷ [])) (OnPair test) x y u
      on_pair test e =
          let a = fetches h 1 v x (omega arith) (omega arith) (x_is.means s h) in
          let s1 : State = record s { regs = a.regs } in
          let b = fetches a.stands 3 w y (omega arith) (omega arith) (y_is.means s1 a.stands) in
          let left = operand_register_kept x 1 3 a.regs b.regs x_is.away (omega arith) (omega arith) b.others ∙ a.here in
          record {
            to = record s1 { regs = b.regs };
            runs = runs_then a.runs (runs_then b.runs (runs_nop (record s1 { regs = b.regs })));
            some = longer_behind (fetch 1 x) _ (longer_behind (fetch 3 y) _ (omega arith));
            stands = b.stands;
            tells = ap₂ (pair_passes test) left b.here ∙ e;
            result = λ e. absurd (true≢false (sym e));
          }

      -- one operand alone, in register 3
      on_one : {o : Option ℕ} {z : Source} {c : ℕ} → IsOperand h o z c → (form : Form) → is_result form ≡ false
          → ((m : State) → read 0 m.regs (operand_register 3 z) ≡ c → passes form x y m ≡ not (nat_eq u 0)) → Decided (fetch 3 z ++ nop ∷ []) form x y u
      on_one {z} {c} z_is form plain tells =
          let a = fetches h 3 c z (omega arith) (omega arith) (z_is.means s h) in
          let s1 : State = record s { regs = a.regs } in
          record {
            to = s1;
            runs = runs_then a.runs (runs_nop s1);
            some = longer_behind (fetch 3 z) _ (omega arith);
            stands = a.stands;
            tells = tells s1 a.here;
            result = λ e. absurd (true≢false (sym e ∙ plain));
          }

      on_left : (test : ZeroTest) → zero_passes test v ≡ not (nat_eq u 0) → Decided (fetch 3 x ++ nop ∷ []) (OnLeft test) x y u
      on_left test e = on_one x_is (OnLeft test) refl (λ m here. ap (zero_passes test) here ∙ e)

      on_right : (test : ZeroTest) → zero_passes test w ≡ not (nat_eq u 0) → Decided (fetch 3 y ++ nop ∷ []) (OnRight test) x y u
      on_right test e = on_one y_is (OnRight test) refl (λ m here. ap (zero_passes test) here ∙ e)

      -- the result of an operator, in register t
      from_result : {is : List Plain} {form : Form} {t c : ℕ} → t < 4 → Computed h is t c
          → ((m : State) → m.regs t ≡ c → passes form x y m ≡ not (nat_eq u 0)) → ((m : State) → m.regs t ≡ c → is_result form ≡ true → m.regs 2 ≡ u)
          → Decided is form x y u
      from_result low z tells result =
          let m : State = record z.to { regs = (z.ends).regs } in
          record {
            to = m;
            runs = (z.ends).runs;
            some = z.some;
            stands = ends_stands z.stands low z.ends;
            tells = tells m (z.ends).here;
            result = result m (z.ends).here;
          }

      by_result : (op : Op) → op_result op v w ≡ Some u → Given op ByResult
      by_result op e = from_result (omega arith) (computes h op 1 3 u (omega arith) (omega arith) x_is y_is e) (λ m here. ap (λ c. not (c == 0)) here)
          (λ m here e. absurd (true≢false (sym e)))

      by_opposite : (op : Op) (t : ℕ) → op_result (opposite_op op) w v ≡ Some t → nat_eq t 0 ≡ not (nat_eq u 0) → Given op ByOpposite
      by_opposite op t e turned = from_result (omega arith) (computes h (opposite_op op) 1 3 t (omega arith) (omega arith) y_is x_is e)
          (λ m here. ap (λ c. c == 0) here ∙ turned) (λ m here e. absurd (true≢false (sym e)))

      -- one word is less than the other, or at most that
      less : (op : Op) (sign : Sign) (c : Bool) → op_result op v w ≡ Some (truth_word (is_below sign v w))
          → op_result (opposite_op op) w v ≡ Some (truth_word (not (is_below sign v w))) → op_result op v w ≡ Some u → Given op (opposite_if c)
      less op sign true is turned e = by_opposite op _ turned (said_opposite (is_below sign v w) u (sym is ∙ e))
      less op sign false is turned e = by_result op e

      at_most : (op : Op) (sign : Sign) (c : Bool) → op_result op v w ≡ Some (truth_word (not (is_below sign w v)))
          → op_result (opposite_op op) w v ≡ Some (truth_word (is_below sign w v)) → op_result op v w ≡ Some u → Given op (opposite_if c)
      at_most op sign true is turned e = by_opposite op _ turned (opposite_said (is_below sign w v) u (sym is ∙ e))
      at_most op sign false is turned e = by_result op e

      pub decides : (op : Op) (form : Form) → form_of op k l ≡ Some form → op_result op v w ≡ Some u → Given op form
      decides Eq form is e = subst (Given Eq) (same_Some (OnPair Equal) form is) (on_pair Equal (said (v == w) u e))
      decides Ne form is e = subst (Given Ne) (same_Some (OnPair NotEqual) form is) (on_pair NotEqual (said (not (v == w)) u e))
      decides LtS form is e = subst (Given LtS) (same_Some _ form is) (cond_both (is_known_zero k) (OnRight AboveZero) _ (Given LtS)
          (λ z. on_right AboveZero ((signs w y_is.below).0 ∙ said (is_below Signed 0 w) u (rw (known_zero k v x_is.said z) at e)))
          (λ _. cond_both (is_known_zero l) (OnLeft BelowZero) _ (Given LtS)
          (λ z. on_left BelowZero ((signs v x_is.below).1 ∙ said (is_below Signed v 0) u (rw (known_zero l w y_is.said z) at e)))
          (λ _. less LtS Signed (is_immediate LeS k) refl refl e)))
      decides LtU form is e = subst (Given LtU) (same_Some _ form is) (less LtU Unsigned (is_immediate LeU k) refl refl e)
      decides LeS form is e = subst (Given LeS) (same_Some _ form is) (cond_both (is_known_zero l) (OnLeft AtMostZero) _ (Given LeS)
          (λ z. on_left AtMostZero ((signs v x_is.below).2 ∙ said (not (is_below Signed 0 v)) u (rw (known_zero l w y_is.said z) at e)))
          (λ _. cond_both (is_known_zero k) (OnRight AtLeastZero) _ (Given LeS)
          (λ z. on_right AtLeastZero ((signs w y_is.below).3 ∙ said (not (is_below Signed w 0)) u (rw (known_zero k v x_is.said z) at e)))
          (λ _. at_most LeS Signed (not (is_immediate LeS l)) refl refl e)))
      decides LeU form is e = subst (Given LeU) (same_Some _ form is) (at_most LeU Unsigned (not (is_immediate LeU l)) refl refl e)
      decides _ form is e = absurd (none-some form is)

      -- where both are known, so is the truth
      with_truth : (op : Op) (form : Form) → (a b : Option ℕ) → k ≡ a → l ≡ b → (o : Option Form) → form_of op k l ≡ o
          → option_map (option_map_or Known (known_truth op a b)) o ≡ Some form → op_result op v w ≡ Some u → Given op form
      with_truth op form a b ka lb None is e r = absurd (none-some form e)
      with_truth op form None b ka lb (Some made) is e r = decides op form (is ∙ e) r
      with_truth op form (Some a) None ka lb (Some made) is e r = decides op form (is ∙ e) r
      with_truth op form (Some a) (Some b) ka lb (Some made) is e r =
          let there : op_result op a b ≡ Some u = ap₂ (op_result op) (x_is.said a ka) (y_is.said b lb) ∙ r in
          let is_known : Some (Known (not (nat_eq u 0))) ≡ Some form = sym (ap (λ o. option_map (option_map_or Known (option_map (λ u. not (nat_eq u 0)) o)) (Some made)) there) ∙ e in
          subst (Given op) (same_Some (Known (not (nat_eq u 0))) form is_known)
          (record { to = s; runs = runs_nop s; some = omega arith; stands = h; tells = refl; result = λ e. absurd (true≢false (sym e)) })

      pub decides_for : (asked : Asked) (op : Op) (form : Form) → form_for asked op k l ≡ Some form → op_result op v w ≡ Some u → Given op form
      decides_for Nothing op form is e = absurd (none-some form is)
      decides_for (Branched c) op form is e = with_truth op form k l refl refl (form_of op k l) refl is e
      decides_for (Returned c) op form is e = subst (Given op) (same_Some InResult form is) (from_result (omega arith)
          (computes h op 1 2 u (omega arith) t2 x_is y_is e) (λ m here. ap (λ c. not (c == 0)) here) (λ m here _. here))

module _ (most total : ℕ) (gs : List RGlobal) (starts : ℕ → ℕ) where
  module _ (g : Arrays) (fs : List Stored) (P : Run → Type 0) (out : List ℕ) (failed : P (Failed out)) where
    -- what a comparison leaves that is one with the branch behind it
    abbrev pub Leaves : (facts : Facts) (registers : Places) (top : Stored) (s : State) (go : Places → Places → Arrays → Run) → Comparison → Type 0
    Leaves facts registers top s go m = (q u : ℕ) (s' : State) → 1 ≤ length (comparison_code m) → RunsTo (comparison_code m) s s'
        → Stands most total gs starts (hide (waiting facts q u).deferred (places_with registers q (Some u))) g (top ∷ fs) s'
        → AreDeferred (waiting facts q u).deferred (places_with registers q (Some u))
        → IsLast (last_with (Some m) None) top.homes (places_with registers q (Some u)) top.slots s'
        → P (go (places_with registers q (Some u)) top.slots g)

    pub compares : (i : RInst) (facts : Facts) (asked : Asked) (m : Comparison) (registers : Places) (top : Stored) (s : State)
        (go : Places → Places → Arrays → Run) → comparison_of (slice_get top.homes) facts asked i ≡ Some m
        → AreFrameHomes top.homes top.count → IsKnown (known_in facts) top.homes registers top.slots → AreDeferred facts.deferred registers
        → Stands most total gs starts (hide facts.deferred registers) g (top ∷ fs) s → Leaves facts registers top s go m
        → P (with_inst gs i (cells top.homes registers top.slots) g out go)
    compares (Bin op d a b) facts asked m registers top s go e ok k lz h f =
        value_or_failed P (read_home top.homes registers top.slots a) out _ failed (λ v ev.
        value_or_failed P (read_home top.homes registers top.slots b) out _ failed (λ w ew.
        value_or_failed P (op_result op v w) out _ failed (λ u eu.
        let it = operator_asked (slice_get top.homes) facts asked op d a b m e in
        let home = saved_register (slice_get top.homes d) it.1 in
        let q = home.0 in
        let x = operand_is facts h lz ok k a v ev in
        let y = operand_is facts h lz ok k b w ew in
        let z = decides_for h u x y asked op m.form it.2 eu in
        subst (λ o. P (with_value o out (λ h. write_at h registers top.slots u (λ r s. go r s g)))) (sym home.1)
        (subst (Leaves facts registers top s go) (sym it.3) f q u z.to z.some z.runs (fewer_stand z.stands (λ r c e. grind (arith, nat_tests)))
        (defers q (λ c e. (home.2, e, rw (same_Some c u (sym e)) (result-word op v w u x.below y.below eu))) lz)
        (is_waiting registers top.slots (comparison_at (slice_get top.homes) facts op d a b m.form) q u home.1 z.tells z.result)))))
    compares _ facts asked m registers top s go e ok k lz h f = absurd (none-some m e)
