-- What a program does, one step after another: each instruction and each exit is one step. Wrong is what has no value: a division without
-- one, a pseudo-register that isn't set in its activation, an index outside a global. So is a result that is wanted and not returned, and
-- a call beyond the depth. What isn't there at all is wrong too, but no program that is an `Rtl` names it.
use Rattle.std.specs.Prelude.{ℕ, ◌&&◌, ◌==◌, List, [], ◌∷◌, ◌++◌, Option, Some, None, length, nat_lt, if◌then◌else◌, slice_get}
use Rattle.std.specs.Prelude.{map}
use Rattle.words.specs.Words.{wrap}
use Rattle.words.specs.Widths.{kept}
use Rattle.runs.specs.Stores.{Places, unset_places, places_with, Arrays, chain, element_at, arrays_with}
use Rattle.runs.specs.Runs.{Outcome, Configuration, Running, Ended, Failed, with_value, steps, outcome}
use Rattle.rtl.specs.declared.instruction.RInst.{RInst}
use Rattle.rtl.specs.declared.instruction.RInst.TheVariants.{Const, Move, Bin, Load, Store}
use Rattle.rtl.specs.declared.instruction.RExit.{RExit}
use Rattle.rtl.specs.declared.instruction.RExit.TheVariants.{Goto, Branch, Call, Return, Out}
use Rattle.rtl.specs.declared.block.RBlock.{RBlock}
use Rattle.rtl.specs.declared.block.RGlobal.{RGlobal}
use Rattle.rtl.specs.Operators.{op_result}
use Rattle.rtl.specs.Programs.{Program}

-- what an activation still has to do in its block
pub record Code : Type 0 where
  pub insts : List RInst
  pub exit : RExit

abbrev pub code_of : RBlock → Code
code_of b = record { insts = b.insts.items; exit = b.exit }

-- an activation of a function, which runs or waits: its blocks, its pseudo-registers and what is left of its block. Its result may go to
-- one of its caller's
pub record Frame : Type 0 where
  pub blocks : List RBlock
  pub registers : Places
  pub code : Code
  pub result_to : Option ℕ

abbrev pub Run : Type 0
Run = Configuration Frame

-- the words of registers, or none where one isn't set
abbrev pub words_in : Places → List ℕ → Option (List ℕ)
words_in r [] = Some []
words_in r (x ∷ xs) = chain (r x) (λ v. chain (words_in r xs) (λ vs. Some (v ∷ vs)))

-- the arguments are the first registers
abbrev pub argument_registers : List ℕ → Places
argument_registers vs = λ x. slice_get vs x

-- what an element of a global keeps of a word, or none where there is no such global
abbrev pub kept_in : List RGlobal → ℕ → ℕ → Option ℕ
kept_in globals a v = chain (slice_get globals a) (λ global. Some (kept global.width v))

-- an instruction, with what it leaves in the registers and globals
abbrev pub with_inst : List RGlobal → RInst → Places → Arrays → List ℕ → (Places → Arrays → Run) → Run
with_inst globals (Const d w) r g out go = go (places_with r d (Some (wrap w))) g
with_inst globals (Move d a) r g out go = with_value (r a) out (λ v. go (places_with r d (Some v)) g)
with_inst globals (Bin op d a b) r g out go =
    with_value (r a) out (λ x. with_value (r b) out (λ y. with_value (op_result op x y) out (λ v. go (places_with r d (Some v)) g)))
with_inst globals (Load d a i) r g out go =
    with_value (r i) out (λ x. with_value (element_at g a x) out (λ v. go (places_with r d (Some v)) g))
with_inst globals (Store a i b) r g out go =
    with_value (r i) out (λ x. with_value (r b) out (λ v. with_value (kept_in globals a v) out
    (λ w. with_value (arrays_with g a x w) out (λ g'. go r g'))))

-- what surrounds code that runs: the program, with a bound on activations. This activation's result goes somewhere, others wait, globals
-- hold words, and there is output
pub record Surroundings : Type 0 where
  pub program : Program
  pub depth : ℕ
  pub result_to : Option ℕ
  pub waiting : List Frame
  pub globals : Arrays
  pub output : List ℕ

-- the activation that runs, of a function of these blocks
abbrev pub activation : Surroundings → List RBlock → Places → Code → Frame
activation w bs r c = record { blocks = bs; registers = r; code = c; result_to = w.result_to }

-- it has come to this code
abbrev pub at : Surroundings → List RBlock → Places → Code → Run
at w bs r c = Running (activation w bs r c ∷ w.waiting) w.globals w.output

-- what is around a function that is called: its caller waits, and its result goes there
abbrev pub around_callee : Surroundings → (caller : Frame) → Option ℕ → Surroundings
around_callee w caller to = record w { result_to = to; waiting = caller ∷ w.waiting }

-- at the start of a block
abbrev pub state_at_block : Surroundings → List RBlock → Places → ℕ → Run
state_at_block w bs r b = with_value (slice_get bs b) w.output (λ block. at w bs r (code_of block))

-- a result goes to a register, where one is wanted
abbrev pub with_result : Option ℕ → Option ℕ → Places → List ℕ → (Places → Run) → Run
with_result None v r out go = go r
with_result (Some d) v r out go = with_value v out (λ w. go (places_with r d (Some w)))

-- a return with a word or without, to the activation below; the last one's word ends the run
abbrev pub state_after_return : Option ℕ → Option ℕ → List Frame → Arrays → List ℕ → Run
state_after_return v to [] g out = with_value v out (λ w. Ended w out)
state_after_return v to (f ∷ frames) g out =
    with_result to v f.registers out (λ r. Running (record f { registers = r } ∷ frames) g out)

-- a call of a function with as many arguments as it has parameters, where the bound on activations lets it
abbrev pub state_after_call : Surroundings → (f : ℕ) → List ℕ → Run
state_after_call w f vs =
    with_value (slice_get w.program.functions f) w.output (λ function.
    if nat_lt (length w.waiting) w.depth && (length vs == function.parameters)
    then state_at_block w function.blocks.items (argument_registers vs) 0
    else Failed w.output)

-- how a block is left
abbrev pub state_after_exit : Surroundings → List RBlock → Places → RExit → Run
state_after_exit w bs r (Goto b) = state_at_block w bs r b
state_after_exit w bs r (Branch a t e) = with_value (r a) w.output (λ v. state_at_block w bs r (if v == 0 then e else t))
state_after_exit w bs r (Call f args to next) =
    with_value (words_in r args.items) w.output (λ vs. with_value (slice_get bs next) w.output (λ block.
    state_after_call (around_callee w (activation w bs r (code_of block)) to) f vs))
state_after_exit w bs r (Return None) = state_after_return None w.result_to w.waiting w.globals w.output
state_after_exit w bs r (Return (Some a)) =
    with_value (r a) w.output (λ v. state_after_return (Some v) w.result_to w.waiting w.globals w.output)
state_after_exit w bs r (Out a next) = with_value (r a) w.output (λ v. state_at_block (record w { output = w.output ++ v ∷ [] }) bs r next)

-- one instruction, or the exit where none is left
abbrev pub step_at : Surroundings → List RBlock → Places → List RInst → RExit → Run
step_at w bs r [] exit = state_after_exit w bs r exit
step_at w bs r (i ∷ is) exit =
    with_inst w.program.globals i r w.globals w.output (λ r' g. at (record w { globals = g }) bs r' (record { insts = is; exit = exit }))

abbrev pub rtl_step : Program → ℕ → Run → Run
rtl_step p depth (Running [] g out) = Failed out
rtl_step p depth (Running (f ∷ frames) g out) =
    step_at (record { program = p; depth = depth; result_to = f.result_to; waiting = frames; globals = g; output = out }) f.blocks f.registers
    f.code.insts f.code.exit
rtl_step p depth (Ended w out) = Ended w out
rtl_step p depth (Failed out) = Failed out

abbrev pub rtl_steps : Program → (depth n : ℕ) → Run → Run
rtl_steps p depth n s = steps (rtl_step p depth) n s

-- the elements of a global at first
abbrev pub first_values : RGlobal → List ℕ
first_values a = map (λ v. kept a.width (wrap v)) a.first.items

-- before the first step: an activation of `main`
abbrev pub rtl_start : Program → Run
rtl_start p =
    with_value (slice_get p.functions p.main) [] (λ main. with_value (slice_get main.blocks.items 0) [] (λ entry.
    Running (record { blocks = main.blocks.items; registers = unset_places; code = code_of entry; result_to = None } ∷ [])
    (map first_values p.globals) []))

-- what so many steps of a program come to, with at most so many activations at once
abbrev pub rtl_run : Program → (depth n : ℕ) → Outcome
rtl_run p depth n = outcome (rtl_steps p depth n (rtl_start p))
