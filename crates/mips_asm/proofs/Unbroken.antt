-- Where no rule is broken, the machine does what the instruction says.
use Rattle.std.proofs.Common.{◌≡◌, true, false, ◌&&◌, None, refl, ap, ap₂}
use Rattle.std.specs.Prelude.{is_some}
use Rattle.mips_isa.specs.declared.inst.Plain.{Plain}
use Rattle.mips_isa.specs.declared.inst.Control.{Control}
use Rattle.mips_isa.specs.declared.inst.Control.TheVariants.{SystemCall}
use Rattle.mips_isa.specs.declared.inst.Inst.TheVariants as I
use Rattle.mips_isa.specs.declared.rule.Rule.{Rule}
use Rattle.mips_isa.specs.declared.rule.Rule.TheVariants.{M1, M3, M9}
use Rattle.mips_isa.specs.Actions.{action_of}
use Rattle.mips_isa.specs.Flows.{on_pending}
use Rattle.mips_isa.specs.Controls.{control_touches, goes_elsewhere, calls_another}
use Rattle.mips_isa.specs.Rules.{control_breaks, action_rule_of, is_stuck}
use Rattle.mips_isa.proofs.Rules.{none_found, nothing_found}
use Rattle.mips_code.specs.declared.steps.Fetched.TheVariants.{Fetches}
use Rattle.mips_code.specs.Machines.{Machine, step_by_rule, instruction_step, step_of}

-- what computes, loads or stores
pub plain_goes : (p : Plain) (m : Machine) → is_stuck (action_of p) m.flow ≡ false → step_of (Fetches (I.Plain p)) m ≡ instruction_step (I.Plain p) m
plain_goes p m e = ap (λ o. step_by_rule o (Fetches (I.Plain p)) m) (nothing_found (action_rule_of (action_of p) m.flow) e)

control_keeps : (c : Control) (m : Machine) → on_pending m.flow.pending (control_touches c) ≡ false
    → (goes_elsewhere c && is_some m.target) ≡ false → calls_another c m.flow.state ≡ false
    → (r : Rule) → control_breaks r c (is_some m.target) m.flow ≡ false
control_keeps c m free outside fine M1 = free
control_keeps c m free outside fine M3 = outside
control_keeps c m free outside fine M9 = fine
control_keeps c m free outside fine _ = refl

-- a branch or a jump outside a slot
pub control_goes : (c : Control) (m : Machine) → goes_elsewhere c ≡ true → on_pending m.flow.pending (control_touches c) ≡ false
    → m.target ≡ None → calls_another c m.flow.state ≡ false
    → step_of (Fetches (I.Control c)) m ≡ instruction_step (I.Control c) m
control_goes c m jumps free outside fine =
    ap (λ o. step_by_rule o (Fetches (I.Control c)) m)
    (none_found (λ r. control_breaks r c (is_some m.target) m.flow) (control_keeps c m free (ap₂ (λ x y. x && y) jumps (ap is_some outside)) fine))

-- a call to the system by 1 or 10
pub system_goes : (m : Machine) → on_pending m.flow.pending (control_touches SystemCall) ≡ false → calls_another SystemCall m.flow.state ≡ false
    → step_of (Fetches (I.Control SystemCall)) m ≡ instruction_step (I.Control SystemCall) m
system_goes m free fine =
    ap (λ o. step_by_rule o (Fetches (I.Control SystemCall)) m)
    (none_found (λ r. control_breaks r SystemCall (is_some m.target) m.flow) (control_keeps SystemCall m free refl fine))
