-- A stuck machine tells the least rule that is broken.
use Rattle.std.proofs.Common.{◌≡◌, ℕ, ◌==◌, Bool, true, false, cond, Option, Some, None, refl, sym, ap, ◌∙◌, true≢false}
use Rattle.std.proofs.lemmas.Option.{none-some}
use Rattle.mips_isa.specs.declared.inst.JumpOp.TheVariants.{Jump}
use Rattle.mips_isa.specs.declared.inst.Control.TheVariants.{JumpTo, SystemCall}
use Rattle.mips_isa.specs.declared.inst.Inst.{Inst}
use Rattle.mips_isa.specs.declared.inst.Inst.TheVariants as insts
use Rattle.mips_isa.specs.declared.rule.Rule.{Rule}
use Rattle.mips_isa.specs.declared.rule.Rule.TheVariants.{M7, M8}
use Rattle.mips_isa.specs.States.{read}
use Rattle.mips_isa.proofs.Rules.{first_is_least}
use Rattle.mips_code.specs.declared.steps.Fetched.{Fetched}
use Rattle.mips_code.specs.declared.steps.Fetched.TheVariants.{NoWord, NoInstruction, Fetches}
use Rattle.mips_code.specs.Machines.{Machine, Stepped, Halts, Sticks, breaks, step_rule_of, step_by_rule, instruction_step}
use Rattle.mips_code.specs.Machines.{system_step, print_step, EachRuleIsLeast}

-- an instruction that breaks no rule isn't stuck
abbrev is_stuck_step : Stepped → Bool
is_stuck_step (Sticks r) = true
is_stuck_step _ = false

abbrev rule_of : Rule → Stepped → Rule
rule_of d (Sticks r) = r
rule_of d _ = d

called_moves : (number : ℕ) (m : Machine) → is_stuck_step (system_step number m) ≡ false
called_moves number m =
    elim (number == 10) as (λ b. is_stuck_step (cond b (Halts (read 0 m.flow.state.regs 4)) (print_step m)) ≡ false) [ true ↦ refl | false ↦ refl ]

moves : (i : Inst) (m : Machine) → is_stuck_step (instruction_step i m) ≡ false
moves (insts.Control (JumpTo Jump field)) m = refl
moves (insts.Control SystemCall) m = called_moves (read 0 m.flow.state.regs 2) m
moves _ m = refl

sticks_by : (o : Option Rule) (f : Fetched) (m : Machine) (r : Rule) → step_rule_of f m ≡ o → step_by_rule o f m ≡ Sticks r → step_rule_of f m ≡ Some r
sticks_by (Some q) f m r is e = is ∙ ap (λ s. Some (rule_of q s)) e
sticks_by None NoWord m r is e = absurd (none-some M7 (sym is))
sticks_by None NoInstruction m r is e = absurd (none-some M8 (sym is))
sticks_by None (Fetches i) m r is e = absurd (true≢false (sym (ap is_stuck_step e) ∙ moves i m))

pub least : EachRuleIsLeast
least f m r e = first_is_least (λ q. breaks q f m) r (sticks_by (step_rule_of f m) f m r refl e)
