-- What a block does: its instructions one after another, a load showing at once, then its exit.
use Rattle.std.specs.Prelude.{ℕ, List, [], ◌∷◌, map, Option, Some, None, slice_index, if◌then◌else◌}
use Rattle.mips_isa.specs.declared.inst.PairTest.{PairTest}
use Rattle.mips_isa.specs.declared.inst.ZeroTest.{ZeroTest}
use Rattle.mips_isa.specs.declared.action.Action.{Action}
use Rattle.mips_isa.specs.States.{State, read, put}
use Rattle.mips_isa.specs.Actions.{action_of, is_safe, state_after}
use Rattle.mips_isa.specs.Controls.{pair_passes, zero_passes}
use Rattle.mblock.specs.declared.exit.Exit.{Exit}
use Rattle.mblock.specs.declared.exit.Exit.TheVariants.{Goto, BranchPair, BranchZero, Call, Return, Out, Halt}
use Rattle.mblock.specs.Parts.{BlockParts}

-- an exit without its registers: its kind, condition and targets
pub data Shape : Type 0 where
  Goes : (t : ℕ) → Shape
  ChoosesPair : (test : PairTest) (t e : ℕ) → Shape
  ChoosesZero : (test : ZeroTest) (t e : ℕ) → Shape
  Calls : (f n : ℕ) → Shape
  Returns : Shape
  Prints : (n : ℕ) → Shape
  Halts : Shape

abbrev pub exit_shape : Exit → Shape
exit_shape (Goto t) = Goes t
exit_shape (BranchPair test a b t e) = ChoosesPair test t e
exit_shape (BranchZero test a t e) = ChoosesZero test t e
exit_shape (Call f n) = Calls f n
exit_shape Return = Returns
exit_shape (Out n) = Prints n
exit_shape Halt = Halts

-- the registers that the exit reads
abbrev pub exit_reads : Exit → List ℕ
exit_reads (Goto t) = []
exit_reads (BranchPair test a b t e) = a ∷ b ∷ []
exit_reads (BranchZero test a t e) = a ∷ []
exit_reads (Call f n) = []
exit_reads Return = 31 ∷ []
exit_reads (Out n) = 4 ∷ []
exit_reads Halt = 4 ∷ []

-- the registers after the exit has put in its link or its number of a call to the system
abbrev pub exit_puts : {A : Type 0} → A → A → A → Shape → (ℕ → A) → ℕ → A
exit_puts link one ten (Calls f n) regs = put regs 31 link
exit_puts link one ten (Prints n) regs = put regs 2 one
exit_puts link one ten Halts regs = put regs 2 ten
exit_puts link one ten _ regs = regs

-- where a run goes on, with what it prints or ends with
pub data Departure : Type 0 where
  GoesTo : (t : ℕ) → Departure
  CallsTo : (f n : ℕ) → Departure
  GoesBack : (link : ℕ) → Departure
  PrintsTo : (word n : ℕ) → Departure
  HaltsWith : (word : ℕ) → Departure

abbrev pub departure_of : Shape → List ℕ → Departure
departure_of (Goes t) words = GoesTo t
departure_of (ChoosesPair test t e) words = GoesTo (if pair_passes test (slice_index words 0) (slice_index words 1) then t else e)
departure_of (ChoosesZero test t e) words = GoesTo (if zero_passes test (slice_index words 0) then t else e)
departure_of (Calls f n) words = CallsTo f n
departure_of Returns words = GoesBack (slice_index words 0)
departure_of (Prints n) words = PrintsTo (slice_index words 0) n
departure_of Halts words = HaltsWith (slice_index words 0)

pub record Effect : Type 0 where
  pub state : State
  pub goes : Departure

-- the actions one after another, or nothing where one is not safe
abbrev pub run : List Action → State → Option State
run [] s = Some s
run (a ∷ rest) s = if is_safe a s then run rest (state_after a s) else None

abbrev pub exit_effect : Exit → State → ℕ → Effect
exit_effect exit s link = record {
  state = record s { regs = exit_puts link 1 10 (exit_shape exit) s.regs };
  goes = departure_of (exit_shape exit) (map (read 0 s.regs) (exit_reads exit));
}

abbrev pub exit_effect_after : Exit → Option State → ℕ → Option Effect
exit_effect_after exit None link = None
exit_effect_after exit (Some s) link = Some (exit_effect exit s link)

-- what a block does from a state, with the link that a call of it would put in; or nothing where it is stuck
abbrev pub block_effect : BlockParts → State → ℕ → Option Effect
block_effect b s link = exit_effect_after b.exit (run (map action_of b.insts) s) link
