-- The words of an order lead where the order goes.
use Rattle.std.proofs.Common.{◌≡◌, ℕ, suc, pred, ◌+◌, ◌/◌, ◌<◌, ◌≤◌, Bool, true, false, cond, not, ◌||◌, ◌==◌, pos, ◌-ℤ◌, inl, inr, List, [], ◌∷◌}
use Rattle.std.proofs.Common.{◌++◌, map, length, Option, Some, None, slice_get, refl, sym, ap, ap₂, ◌∙◌, subst, true≢false, arith}
use Rattle.std.proofs.lemmas.Bool.{cases_Bool, or_parts}
use Rattle.std.proofs.lemmas.List.{length-map}
use Rattle.std.proofs.lemmas.Option.{same_Some, none-some}
use Rattle.std.proofs.lemmas.Int.{ints}
use Rattle.std.proofs.lemmas.Bool.Decides.{nat_tests}
use Rattle.words.specs.declared.operator.Operator.TheVariants.{Addu}
use Rattle.words.specs.Words.{wrap}
use Rattle.words.specs.Operators.{op_value}
use Rattle.mips_isa.specs.declared.inst.Plain.{Plain}
use Rattle.mips_isa.specs.declared.inst.Plain.TheVariants.{Imm}
use Rattle.mips_isa.specs.declared.inst.ImmOp.TheVariants.{Addiu}
use Rattle.mips_isa.specs.declared.inst.JumpOp.TheVariants.{JumpAndLink}
use Rattle.mips_isa.specs.declared.inst.Control.{Control}
use Rattle.mips_isa.specs.declared.inst.Control.TheVariants as controls
use Rattle.mips_isa.specs.declared.inst.Inst.{Inst}
use Rattle.mips_isa.specs.declared.inst.Inst.TheVariants as I
use Rattle.mips_isa.specs.declared.action.Action.{Action}
use Rattle.mips_isa.specs.declared.action.Action.TheVariants.{Loads}
use Rattle.mips_isa.specs.States.{State, read, put}
use Rattle.mips_isa.specs.Actions.{action_of, is_load, is_move, nop}
use Rattle.mips_isa.specs.Flows.{Nothing, Flow, state_with_pending, pending_of, shown_state, on_pending, flow_after, quiet}
use Rattle.mips_isa.specs.Rules.{is_stuck}
use Rattle.mips_isa.specs.Steps.{words_from}
use Rattle.mips_isa.specs.declared.rule.Rule.TheVariants.{M1}
use Rattle.mips_isa.proofs.Rules.{stuck_is}
use Rattle.mips_isa.proofs.Late.{settled_state, settled_after}
use Rattle.mblock.specs.declared.exit.Exit.{Exit}
use Rattle.mblock.specs.declared.exit.Exit.TheVariants.{Goto, BranchPair, BranchZero, Call, Return, Out, Halt}
use Rattle.mblock.specs.Parts.{OrderParts}
use Rattle.mblock.specs.BlockMeaning.{exit_shape, Departure, GoesTo, CallsTo, GoesBack, PrintsTo, HaltsWith, departure_of, Effect}
use Rattle.mblock.specs.OrderMeaning.{system_word, exit_touches, number_action, operand_words, system_call, jump}
use Rattle.mblock.specs.OrderMeaning.{order_end_effect, order_effect_from, order_effect}
use Rattle.mblock.proofs.Runs.{exited, one_value, ten_value}
use Rattle.mips_code.specs.declared.steps.Ending.TheVariants as endings
use Rattle.mips_isa.specs.Controls.{pair_passes, zero_passes, control_touches, goes_elsewhere, calls_another, jump_target, branch_target}
use Rattle.mips_code.specs.Machines.{Machine, Goes, outcome_behind, machine_run, step_of, instruction_step, jump_step, system_step}
use Rattle.mips_asm.specs.Fetching.{insts_code}
use Rattle.mips_asm.specs.Layout.{address_of_place, jump_to, branch_offset, exit_insts, order_insts}
use Rattle.mips_asm.proofs.Unbroken.{system_goes}
use Rattle.mips_asm.proofs.LayoutPlaces.{HasAt, has_front, has_back, jump_lands}
use Rattle.mips_asm.proofs.Steps.{machine_at, at, toward, Leads, leads_on, goes, at_place, fewer, plain_step, not_stuck, words_lead, within, control_step, slot_step, hop}
use Rattle.mips_asm.specs.declared.limits.TheConstants.{CODE_WORDS}

branch_lands : (p q : ℕ) → p < CODE_WORDS → q ≤ CODE_WORDS → branch_target (address_of_place p + 4) (branch_offset p q) ≡ address_of_place q
branch_lands p q lp lq = omega (arith, ints)

-- ---- what a word keeps

pub words_hold : (insts : List Plain) (f f' : Flow) → f.hold ≤ 2 → words_from (map action_of insts) (Some f) ≡ Some f' → f'.hold ≤ 2
words_hold [] f f' le e = subst (λ g. g.hold ≤ 2) (same_Some f f' e) le
words_hold (i ∷ rest) f f' le e =
    words_hold rest (flow_after (action_of i) f) f' (grind (arith, nat_tests)) (not_stuck rest (is_stuck (action_of i) f) (flow_after (action_of i) f) f' e).1

pending_none : (a : Action) (s : State) → is_load a ≡ false → pending_of a s ≡ Nothing
pending_none (Loads w d base offset) s e = absurd (true≢false e)
pending_none _ s e = refl

-- behind a slot nothing is pending and nothing waits
slot_quiet : (a : Action) (s : State) (h : ℕ) → (is_load a || is_move a) ≡ false → h ≤ 2
    → flow_after a (record { state = s; pending = Nothing; hold = pred h }) ≡ quiet
    (settled_state (flow_after a (record { state = s; pending = Nothing; hold = pred h })))
slot_quiet a s h kind le =
    let parts = or_parts (is_load a) (is_move a) kind in
    let none = pending_none a s parts.0 in
    let gone : pred (pred h) ≡ 0 = omega arith in
    let zero_hold : cond (is_move a) 2 (pred (pred h)) ≡ 0 = rw parts.1 gone in
    ap₂ (λ p n. record { state = shown_state a s; pending = p; hold = n }) none zero_hold
    ∙ ap quiet (sym (ap (λ p. state_with_pending p (shown_state a s)) none))

-- ---- a jump

abbrev jump_mid : Exit → ℕ → Flow → Flow
jump_mid exit link f = record { state = state_with_pending f.pending (exited exit link f.state); pending = Nothing; hold = pred f.hold }

record Jumps (exit : Exit) (i : Plain) (f : Flow) (link : ℕ) (r : Effect) : Type 0 where
  free : on_pending f.pending (exit_touches exit) ≡ false
  kind : (is_load (action_of i) || is_move (action_of i)) ≡ false
  ok : is_stuck (action_of i) (jump_mid exit link f) ≡ false
  leaves : record { state = settled_state (flow_after (action_of i) (jump_mid exit link f)); goes = departure_of (exit_shape exit) (operand_words exit f) } ≡ r

jump_parts : (exit : Exit) (i : Plain) (f : Flow) (link : ℕ) (r : Effect) → jump exit (Some i) f link ≡ Some r → Jumps exit i f link r
jump_parts exit i f link r e =
    go (on_pending f.pending (exit_touches exit)) (is_load (action_of i) || is_move (action_of i)) (is_stuck (action_of i) (jump_mid exit link f)) refl refl refl
  where
    go : (x y z : Bool) → on_pending f.pending (exit_touches exit) ≡ x → (is_load (action_of i) || is_move (action_of i)) ≡ y
        → is_stuck (action_of i) (jump_mid exit link f) ≡ z → Jumps exit i f link r
    go true y z ex ey ez = absurd (none-some r (rw ex at e))
    go false true z ex ey ez = absurd (none-some r (rw (ex, ey) at e))
    go false false true ex ey ez = absurd (none-some r (rw (ex, ey, ez) at e))
    go false false false ex ey ez = record { free = ex; kind = ey; ok = ez; leaves = same_Some _ r (rw (ex, ey, ez) at e) }

-- ---- a call to the system

call_parts : (exit : Exit) (number : ℕ) (f : Flow) (r : Effect) → system_call exit number None f ≡ Some r
    → (is_stuck (number_action number) f ≡ false) × (system_word exit (Some (flow_after (number_action number) f)) ≡ Some r)
call_parts exit number f r e = elim (cases_Bool (is_stuck (number_action number) f)) [
  | inl ex ↦ absurd (none-some r (rw ex at e))
  | inr ex ↦ (ex, rw ex at e)
]

-- where the machine is once an order has left
abbrev pub Arrives : List Inst → (ℕ → ℕ) → Machine → List ℕ → Departure → State → Type 0
Arrives code start m out (GoesTo u) s = Leads code 2 m (machine_at (start u) s out)
Arrives code start m out (CallsTo f n) s = Leads code 2 m (machine_at (start f) s out)
Arrives code start m out (GoesBack w) s = Leads code 2 m (toward s w out)
Arrives code start m out (PrintsTo w u) s = Leads code 2 m (machine_at (start u) s (out ++ w ∷ []))
Arrives code start m out (HaltsWith w) s = (k : ℕ) → (j : ℕ) × (2 + k ≤ j) × (machine_run (insts_code code) j m ≡ record { end = endings.Halt w; output = out })

module _ (code : List Inst) (start : ℕ → ℕ) where
  -- a jump, its slot, and the address
  jump_arrives : (exit : Exit) (ctrl : Control) (t p : ℕ) (i : Plain) (f : Flow) (link : ℕ) (r : Effect) (out : List ℕ) → f.hold ≤ 2
      → HasAt code p (I.Control ctrl ∷ I.Plain i ∷ []) → goes_elsewhere ctrl ≡ true → calls_another ctrl f.state ≡ false
      → instruction_step (I.Control ctrl) (at p f out) ≡ jump_step (exited exit link f.state) t (at p f out)
      → control_touches ctrl ≡ exit_touches exit → jump exit (Some i) f link ≡ Some r
      → (Leads code 2 (at p f out) (toward r.state t out) → Arrives code start (at p f out) out (departure_of (exit_shape exit) (operand_words exit f)) r.state)
      → Arrives code start (at p f out) out r.goes r.state
  jump_arrives exit ctrl t p i f link r out le h jumps fine does touches e on =
      let j = jump_parts exit i f link r e in
      let first = control_step code p ctrl t (exited exit link f.state) f out h.0 jumps fine does (ap (on_pending f.pending) touches ∙ j.free) in
      let second = slot_step code (p + 1) t i (jump_mid exit link f) out h.1.0 j.ok in
      let still : flow_after (action_of i) (jump_mid exit link f) ≡ quiet r.state =
      slot_quiet (action_of i) (state_with_pending f.pending (exited exit link f.state)) f.hold j.kind le ∙ ap (λ o. quiet o.state) j.leaves in
      subst (λ g. Arrives code start (at p f out) out g r.state) (ap (λ o. o.goes) j.leaves)
      (on (subst (λ g. Leads code 2 (at p f out) (record (toward r.state t out) { flow = g })) still (leads_on code 1 1 _ _ _ first second)))

  -- a call to the system by the number that the first word has put into register 2
  number_calls : (number n p : ℕ) (f : Flow) (out : List ℕ) → op_value Addu 0 (wrap number) ≡ n → not ((n == 1) || (n == 10)) ≡ false
      → is_stuck (number_action number) f ≡ false → slice_get code p ≡ Some (I.Control controls.SystemCall)
      → step_of (insts_code code (address_of_place p)) (at p (flow_after (number_action number) f) out)
      ≡ system_step n (at p (flow_after (number_action number) f) out)
  number_calls number n p f out value fine ok h =
      let m = at p (flow_after (number_action number) f) out in
      let there = ap (λ s. s.regs 2) (settled_after (number_action number) f (stuck_is.none (number_action number) f ok M1)) ∙ value in
      at_place code p (I.Control controls.SystemCall) m h refl
      ∙ system_goes m refl (ap (λ x. not ((x == 1) || (x == 10))) there ∙ fine) ∙ ap (λ x. system_step x m) there

  pub record Placed : Type 0 where
    pub room : length code ≤ CODE_WORDS
    pub starts : (u : ℕ) → start u ≤ CODE_WORDS

  -- a branch leads where its test says
  branch_arrives : (t e p : ℕ) (m : Machine) (s : State) (out : List ℕ) → Placed → p < CODE_WORDS
      → HasAt code (p + 1 + 1) (jump_to (start e) ∷ I.Plain nop ∷ []) → (b : Bool)
      → Leads code 2 m (toward s (cond b (branch_target (address_of_place p + 4) (pos (start t) -ℤ pos (p + 1))) (address_of_place p + 8)) out)
      → Leads code 2 m (machine_at (start (cond b t e)) s out)
  branch_arrives t e p m s out placed lp h true l =
      subst (λ x. Leads code 2 m (toward s x out)) (branch_lands p (start t) lp (placed.starts t)) l
  branch_arrives t e p m s out placed lp h false l =
      let there : address_of_place p + 8 ≡ address_of_place (p + 1 + 1) = omega arith in
      let here = subst (λ x. Leads code 2 m (toward s x out)) there l in
      fewer code 4 2 _ _ (omega arith) (leads_on code 2 2 _ _ _ here (hop code (p + 1 + 1) (start e) s out placed.room h))

  exit_arrives : (exit : Exit) (slot : Option Plain) (p : ℕ) (f : Flow) (link : ℕ) (r : Effect) (out : List ℕ) → Placed → f.hold ≤ 2
      → link ≡ address_of_place (p + 2) → HasAt code p (exit_insts start p exit slot) → order_end_effect exit slot f link ≡ Some r
      → Arrives code start (at p f out) out r.goes r.state
  exit_arrives (Goto t) (Some i) p f link r out placed le el h e =
      jump_arrives (Goto t) _ _ p i f link r out le h refl refl refl refl e
      (λ l. subst (λ x. Leads code 2 (at p f out) (toward r.state x out)) (jump_lands p (start t) (within code p _ placed.room h.0)) l)
  exit_arrives (BranchPair test a b t n) (Some i) p f link r out placed le el h e =
      jump_arrives (BranchPair test a b t n) _ _ p i f link r out le (h.0, (h.1.0, tt)) refl refl refl refl e
      (branch_arrives t n p (at p f out) r.state out placed (within code p _ placed.room h.0) h.1.1
      (pair_passes test (read 0 f.state.regs a) (read 0 f.state.regs b)))
  exit_arrives (BranchZero test a t n) (Some i) p f link r out placed le el h e =
      jump_arrives (BranchZero test a t n) _ _ p i f link r out le (h.0, (h.1.0, tt)) refl refl refl refl e
      (branch_arrives t n p (at p f out) r.state out placed (within code p _ placed.room h.0) h.1.1 (zero_passes test (read 0 f.state.regs a)))
  exit_arrives (Call g n) (Some i) p f link r out placed le el h e =
      let back : address_of_place p + 8 ≡ link = omega (arith, el) in
      jump_arrives (Call g n) (controls.JumpTo JumpAndLink (address_of_place (start g) / 4)) _ p i f link r out le
      (h.0, (h.1.0, tt)) refl refl
      (ap (λ x. jump_step (record f.state { regs = put f.state.regs 31 x })
      (jump_target (address_of_place p + 4) (address_of_place (start g) / 4)) (at p f out)) back) refl e
      (λ l. subst (λ x. Leads code 2 (at p f out) (toward r.state x out)) (jump_lands p (start g) (within code p _ placed.room h.0)) l)
  exit_arrives Return (Some i) p f link r out placed le el h e = jump_arrives Return _ _ p i f link r out le h refl refl refl refl e (λ l. l)
  exit_arrives (Out n) None p f link r out placed le el h e =
      let c = call_parts (Out n) 1 f r e in
      let mid = flow_after (number_action 1) f in
      let printed = out ++ mid.state.regs 4 ∷ [] in
      let still : pred (pred f.hold) ≡ 0 = omega arith in
      let there : address_of_place (p + 1) + 4 ≡ address_of_place (p + 1 + 1) = omega arith in
      let print : Leads code 1 (at (p + 1) mid out) (machine_at (p + 1 + 1) mid.state printed) =
      goes code (at (p + 1) mid out) _
      (number_calls 1 1 (p + 1) f out one_value refl c.0 h.1.0
      ∙ ap₂ (λ x y. Goes (record (toward mid.state y printed) { flow = record { state = mid.state; pending = Nothing; hold = x } })) still there) in
      subst (λ o. Arrives code start (at p f out) out o.goes o.state) (same_Some _ r c.1)
      (fewer code 4 2 _ _ (omega arith)
      (leads_on code 2 2 _ _ _ (leads_on code 1 1 _ _ _ (plain_step code p (Imm Addiu 2 0 (pos 1)) f out h.0 c.0) print)
      (hop code (p + 1 + 1) (start n) mid.state printed placed.room (h.1.1.0, (h.1.1.1.0, tt)))))
  exit_arrives Halt None p f link r out placed le el h e =
      let c = call_parts Halt 10 f r e in
      subst (λ o. Arrives code start (at p f out) out o.goes o.state) (same_Some _ r c.1)
      (λ k. let a = (plain_step code p (Imm Addiu 2 0 (pos 10)) f out h.0 c.0).by (suc k) in
      let stop = number_calls 10 10 (p + 1) f out ten_value refl c.0 h.1.0 in
      (a.0, omega (arith, a.1), a.2 ∙ ap (λ s. outcome_behind s (machine_run (insts_code code) k) out) stop))
  exit_arrives _ _ p f link r out placed le el h e = absurd (none-some r e)

  -- the words of a whole order
  pub order_arrives : (o : OrderParts) (p : ℕ) (s : State) (link : ℕ) (r : Effect) (out : List ℕ) → Placed
      → link ≡ address_of_place (p + length o.insts + 2) → HasAt code p (order_insts start p o) → order_effect o s link ≡ Some r
      → (f : Flow) × Leads code (length o.insts) (machine_at p s out) (at (p + length o.insts) f out)
      × Arrives code start (at (p + length o.insts) f out) out r.goes r.state
  order_arrives o p s link r out placed el h e = go (words_from (map action_of o.insts) (Some (quiet s))) refl e
    where
      after_insts : HasAt code (p + length o.insts) (exit_insts start (p + length o.insts) o.exit o.slot)
      after_insts = rw (length-map o.insts I.Plain) at (has_back code p (map I.Plain o.insts) _ h)

      go : (x : Option Flow) → words_from (map action_of o.insts) (Some (quiet s)) ≡ x → order_effect_from o.exit o.slot x link ≡ Some r
          → (f : Flow) × Leads code (length o.insts) (machine_at p s out) (at (p + length o.insts) f out)
          × Arrives code start (at (p + length o.insts) f out) out r.goes r.state
      go None ex h' = absurd (none-some r h')
      go (Some f) ex h' = (
        f,
        words_lead code o.insts p (quiet s) f out ex (has_front code p (map I.Plain o.insts) _ h),
        exit_arrives o.exit o.slot
            (p + length o.insts) f link r out placed (words_hold o.insts (quiet s) f (omega arith) ex) el after_insts h',
      )
