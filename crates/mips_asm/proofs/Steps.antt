-- The machine goes from one word to another.
use Rattle.std.proofs.Common.{◌≡◌, ℕ, suc, pred, ◌+◌, ◌/◌, ◌<◌, ◌≤◌, Bool, true, false, cond, List, [], ◌∷◌, map, length, slice_get, Some}
use Rattle.std.proofs.Common.{None, refl, ap, ap₂, ◌∙◌, subst, arith}
use Rattle.std.proofs.lemmas.Option.{same_Some, none-some, slice_get_within}
use Rattle.mips_isa.specs.declared.inst.Plain.{Plain}
use Rattle.mips_isa.specs.declared.inst.JumpOp.TheVariants.{Jump}
use Rattle.mips_isa.specs.declared.inst.Control.{Control}
use Rattle.mips_isa.specs.declared.inst.Control.TheVariants as controls
use Rattle.mips_isa.specs.declared.inst.Inst.{Inst}
use Rattle.mips_isa.specs.declared.inst.Inst.TheVariants as I
use Rattle.mips_isa.specs.States.{State}
use Rattle.mips_isa.specs.Actions.{action_of, nop}
use Rattle.mips_isa.specs.Flows.{Nothing, Flow, state_with_pending, on_pending, flow_after, quiet}
use Rattle.mips_isa.specs.Rules.{is_stuck}
use Rattle.mips_isa.specs.Steps.{words_from}
use Rattle.mips_code.specs.declared.steps.Fetched.TheVariants.{Fetches}
use Rattle.mips_isa.specs.Controls.{control_touches, goes_elsewhere, calls_another, jump_target}
use Rattle.mips_code.specs.Machines.{Machine, Goes, outcome_behind, machine_run, step_of, instruction_step, jump_step}
use Rattle.mips_asm.specs.Fetching.{insts_code}
use Rattle.mips_asm.specs.Layout.{address_of_place, jump_to}
use Rattle.mips_asm.proofs.Unbroken.{plain_goes, control_goes}
use Rattle.mips_asm.proofs.LayoutPlaces.{HasAt, fetch_at, jump_lands}
use Rattle.mips_asm.specs.declared.limits.TheConstants.{CODE_WORDS}

abbrev pub machine_at : ℕ → State → List ℕ → Machine
machine_at p s out = record { flow = quiet s; pc = address_of_place p; target = None; output = out }

abbrev pub at : ℕ → Flow → List ℕ → Machine
at p f out = record { flow = f; pc = address_of_place p; target = None; output = out }

-- behind a word that leads to an address
abbrev pub toward : State → ℕ → List ℕ → Machine
toward s pc out = record { flow = quiet s; pc = pc; target = None; output = out }

-- the machine goes from one state to another in d words at least
pub record Leads (code : List Inst) (d : ℕ) (m m' : Machine) : Type 0 where
  pub by : (k : ℕ) → (j : ℕ) × (d + k ≤ j) × (machine_run (insts_code code) j m ≡ machine_run (insts_code code) k m')

pub not_stuck : (is : List Plain) (b : Bool) (g f' : Flow) → words_from (map action_of is) (cond b None (Some g)) ≡ Some f'
    → (b ≡ false) × (words_from (map action_of is) (Some g) ≡ Some f')
not_stuck is true g f' e = absurd (none-some f' e)
not_stuck is false g f' e = (refl, e)

module _ (code : List Inst) where
  pub leads_on : (d e : ℕ) (m m1 m2 : Machine) → Leads code d m m1 → Leads code e m1 m2 → Leads code (d + e) m m2
  leads_on d e m m1 m2 l r = record { by = λ k. let b = r.by k in let a = l.by b.0 in (a.0, omega (arith, a.1, b.1), a.2 ∙ b.2) }

  pub fewer : (d e : ℕ) (m m' : Machine) → e ≤ d → Leads code d m m' → Leads code e m m'
  fewer d e m m' le l = record { by = λ k. let a = l.by k in (a.0, omega (arith, a.1), a.2) }

  -- a step that goes on
  pub goes : (m m' : Machine) → step_of (insts_code code m.pc) m ≡ Goes m' → Leads code 1 m m'
  goes m m' e = record { by = λ k. (suc k, omega arith, ap (λ s. outcome_behind s (machine_run (insts_code code) k) m.output) e) }

  -- the step of an instruction at a place
  pub at_place : (p : ℕ) (i : Inst) (m : Machine) → slice_get code p ≡ Some i → m.pc ≡ address_of_place p
      → step_of (insts_code code m.pc) m ≡ step_of (Fetches i) m
  at_place p i m e here = ap (λ f. step_of f m) (ap (insts_code code) here ∙ fetch_at code p i e)

  -- a word that isn't stuck
  pub plain_step : (p : ℕ) (i : Plain) (f : Flow) (out : List ℕ) → slice_get code p ≡ Some (I.Plain i) → is_stuck (action_of i) f ≡ false
      → Leads code 1 (at p f out) (at (p + 1) (flow_after (action_of i) f) out)
  plain_step p i f out e ok =
      let next : address_of_place p + 4 ≡ address_of_place (p + 1) = omega arith in
      goes (at p f out) (at (p + 1) (flow_after (action_of i) f) out)
      (at_place p (I.Plain i) (at p f out) e refl ∙ plain_goes i (at p f out) ok
      ∙ ap (λ x. Goes (record { flow = flow_after (action_of i) f; pc = x; target = None; output = out })) next)

  -- the instructions of an order
  pub words_lead : (insts : List Plain) (p : ℕ) (f f' : Flow) (out : List ℕ) → words_from (map action_of insts) (Some f) ≡ Some f'
      → HasAt code p (map I.Plain insts) → Leads code (length insts) (at p f out) (at (p + length insts) f' out)
  words_lead [] p f f' out e h =
      let here : p ≡ p + 0 = omega arith in
      record { by = λ k. (k, omega arith, ap₂ (λ n g. machine_run (insts_code code) k (at n g out)) here (same_Some f f' e)) }
  words_lead (i ∷ rest) p f f' out e h =
      let free = not_stuck rest (is_stuck (action_of i) f) (flow_after (action_of i) f) f' e in
      let there : p + 1 + length rest ≡ p + length (i ∷ rest) = omega arith in
      fewer (1 + length rest) _ _ _ (omega arith)
      (subst (λ n. Leads code (1 + length rest) (at p f out) (at n f' out)) there
      (leads_on 1 (length rest) _ _ _ (plain_step p i f out h.0 free.0) (words_lead rest (p + 1) (flow_after (action_of i) f) f' out free.1 h.1)))

  -- ---- jumps

  pub within : (p : ℕ) (i : Inst) → length code ≤ CODE_WORDS → slice_get code p ≡ Some i → p < CODE_WORDS
  within p i room e = let lt = slice_get_within code p i e in omega (arith, lt)

  -- in a slot, on the way to an address
  abbrev pub slot_at : ℕ → ℕ → Flow → List ℕ → Machine
  slot_at p t f out = record { flow = f; pc = address_of_place p; target = Some t; output = out }

  -- a branch or jump
  pub control_step : (p : ℕ) (c : Control) (t : ℕ) (s : State) (f : Flow) (out : List ℕ) → slice_get code p ≡ Some (I.Control c)
      → goes_elsewhere c ≡ true → calls_another c f.state ≡ false
      → instruction_step (I.Control c) (at p f out) ≡ jump_step s t (at p f out) → on_pending f.pending (control_touches c) ≡ false
      → Leads code 1 (at p f out) (slot_at (p + 1) t (record { state = state_with_pending f.pending s; pending = Nothing; hold = pred f.hold }) out)
  control_step p c t s f out e jumps fine does free =
      let next : address_of_place p + 4 ≡ address_of_place (p + 1) = omega arith in
      let mid : Flow = record { state = state_with_pending f.pending s; pending = Nothing; hold = pred f.hold } in
      goes (at p f out) (slot_at (p + 1) t mid out)
      (at_place p (I.Control c) (at p f out) e refl ∙ control_goes c (at p f out) jumps free refl fine ∙ does
      ∙ ap (λ x. Goes (record { flow = mid; pc = x; target = Some t; output = out })) next)

  -- the word in a slot
  pub slot_step : (p t : ℕ) (i : Plain) (f : Flow) (out : List ℕ) → slice_get code p ≡ Some (I.Plain i) → is_stuck (action_of i) f ≡ false
      → Leads code 1 (slot_at p t f out) (record { flow = flow_after (action_of i) f; pc = t; target = None; output = out })
  slot_step p t i f out e ok =
      goes (slot_at p t f out) _ (at_place p (I.Plain i) (slot_at p t f out) e refl ∙ plain_goes i (slot_at p t f out) ok)

  -- a jump that nothing holds up, with a slot that does nothing
  pub hop : (p q : ℕ) (s : State) (out : List ℕ) → length code ≤ CODE_WORDS → HasAt code p (jump_to q ∷ I.Plain nop ∷ [])
      → Leads code 2 (machine_at p s out) (machine_at q s out)
  hop p q s out room h =
      let lands = jump_lands p q (within p _ room h.0) in
      subst (λ t. Leads code 2 (machine_at p s out) (toward s t out)) lands
      (leads_on 1 1 _ _ _
      (control_step p (controls.JumpTo Jump (address_of_place q / 4)) (jump_target (address_of_place p + 4) (address_of_place q / 4)) s
      (quiet s) out h.0 refl refl refl refl)
      (slot_step (p + 1) (jump_target (address_of_place p + 4) (address_of_place q / 4)) nop (quiet s) out h.1.0 refl))
