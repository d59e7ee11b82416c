-- What an order does, word by word. Its instructions come first, a word each, and a loaded register shows one word later (`words_from`).
-- Then comes the exit word, which reads its operands, puts in its link and settles where the run goes (`exit_word`, `departure_of`). After
-- the slot (`slot_word`) what is pending shows (`effect_at_end`). Out and Halt have no slot and are two words: the first puts a number into
-- register 2, the second calls the system (`system_call`).
use Rattle.std.specs.Prelude.{ℕ, pos, Bool, ◌||◌, List, map, Option, Some, None, if◌then◌else◌}
use Rattle.words.specs.declared.operator.Operator.TheVariants.{Addu}
use Rattle.mips_isa.specs.declared.inst.Plain.{Plain}
use Rattle.mips_isa.specs.declared.inst.JumpOp.TheVariants.{Jump, JumpAndLink}
use Rattle.mips_isa.specs.declared.inst.Control.TheVariants as controls
use Rattle.mips_isa.specs.declared.action.Operand.TheVariants.{Fixed}
use Rattle.mips_isa.specs.declared.action.Action.{Action}
use Rattle.mips_isa.specs.declared.action.Action.TheVariants.{Computes}
use Rattle.mips_isa.specs.States.{State, read}
use Rattle.mips_isa.specs.Actions.{action_of, touches, is_load, is_move}
use Rattle.mips_isa.specs.Flows.{Flow, state_with_pending, on_pending, quiet}
use Rattle.mips_isa.specs.Controls.{control_touches, flow_past}
use Rattle.mips_isa.specs.Steps.{word, words_from}
use Rattle.mblock.specs.declared.exit.Exit.{Exit}
use Rattle.mblock.specs.declared.exit.Exit.TheVariants.{Goto, BranchPair, BranchZero, Call, Return, Out, Halt}
use Rattle.mblock.specs.Parts.{OrderParts}
use Rattle.mblock.specs.BlockMeaning.{exit_shape, exit_reads, exit_puts, Departure, departure_of, Effect}

-- the first word of a call to the system: its number into register 2
abbrev pub number_action : ℕ → Action
number_action number = Computes 2 Addu 0 (Fixed number)

-- the registers that the first word of the exit reads or writes, wherever it leads to
abbrev pub exit_touches : Exit → ℕ → Bool
exit_touches (Goto t) r = control_touches (controls.JumpTo Jump t) r
exit_touches (BranchPair test a b t e) r = control_touches (controls.BranchPair test a b (pos 0)) r
exit_touches (BranchZero test a t e) r = control_touches (controls.BranchZero test a (pos 0)) r
exit_touches (Call f n) r = control_touches (controls.JumpTo JumpAndLink f) r
exit_touches Return r = control_touches (controls.JumpRegister 31) r
exit_touches (Out n) r = touches (number_action 1) r
exit_touches Halt r = touches (number_action 10) r

-- the word of an exit with a slot
abbrev pub exit_word : Exit → Flow → ℕ → Option Flow
exit_word exit f link =
    if on_pending f.pending (exit_touches exit) then None
    else Some (flow_past (record f.state { regs = exit_puts link 1 10 (exit_shape exit) f.state.regs }) f)

-- the slot: neither a load nor a move of HI or LO
abbrev pub slot_word : Action → Option Flow → Option Flow
slot_word a None = None
slot_word a (Some f) = if is_load a || is_move a then None else word a f

abbrev pub effect_at_end : Departure → Option Flow → Option Effect
effect_at_end goes None = None
effect_at_end goes (Some f) = Some (record { state = state_with_pending f.pending f.state; goes = goes })

abbrev pub operand_words : Exit → Flow → List ℕ
operand_words exit f = map (read 0 f.state.regs) (exit_reads exit)

-- a call to the system reads its number and register 4
abbrev pub system_word : Exit → Option Flow → Option Effect
system_word exit None = None
system_word exit (Some f) =
    if on_pending f.pending (control_touches controls.SystemCall) then None
    else effect_at_end (departure_of (exit_shape exit) (operand_words exit f)) (Some f)

abbrev pub system_call : Exit → ℕ → Option Plain → Flow → Option Effect
system_call exit number (Some i) f = None
system_call exit number None f = system_word exit (word (number_action number) f)

abbrev pub jump : Exit → Option Plain → Flow → ℕ → Option Effect
jump exit None f link = None
jump exit (Some i) f link =
    effect_at_end (departure_of (exit_shape exit) (operand_words exit f)) (slot_word (action_of i) (exit_word exit f link))

abbrev pub order_end_effect : Exit → Option Plain → Flow → ℕ → Option Effect
order_end_effect (Goto t) slot f link = jump (Goto t) slot f link
order_end_effect (BranchPair test a b t e) slot f link = jump (BranchPair test a b t e) slot f link
order_end_effect (BranchZero test a t e) slot f link = jump (BranchZero test a t e) slot f link
order_end_effect (Call g n) slot f link = jump (Call g n) slot f link
order_end_effect Return slot f link = jump Return slot f link
order_end_effect (Out n) slot f link = system_call (Out n) 1 slot f
order_end_effect Halt slot f link = system_call Halt 10 slot f

abbrev pub order_effect_from : Exit → Option Plain → Option Flow → ℕ → Option Effect
order_effect_from exit slot None link = None
order_effect_from exit slot (Some f) link = order_end_effect exit slot f link

-- what an order does from a state, with the link that a call of it would put in; or nothing where it is stuck
abbrev pub order_effect : OrderParts → State → ℕ → Option Effect
order_effect o s link = order_effect_from o.exit o.slot (words_from (map action_of o.insts) (Some (quiet s))) link
