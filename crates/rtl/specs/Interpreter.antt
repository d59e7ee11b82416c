-- What the interpreter keeps, and the state that it stands for.
use Rattle.std.specs.Prelude.{◌≡◌, ℕ, List, Option, Some, map, slice_get}
use Rattle.runs.specs.Stores.{Places, Arrays, chain, element_at, places_with}
use Rattle.runs.specs.Runs.{with_value}
use Rattle.runs.specs.Kept.{places, arrays}
use Rattle.runs.specs.Calls.{callers_of, state_with_call, reached_by}
use Rattle.runs.specs.declared.interpreter.Interpreter as Runs
use Rattle.runs.specs.declared.reached.Reached.{Reached}
use Rattle.rtl.specs.declared.operator.Op.{Op}
use Rattle.rtl.specs.declared.instruction.RInst.{RInst}
use Rattle.rtl.specs.declared.instruction.RExit.{RExit}
use Rattle.rtl.specs.declared.block.RBlock.{RBlock}
use Rattle.rtl.specs.declared.block.RGlobal.{RGlobal}
use Rattle.rtl.specs.Operators.{op_result}
use Rattle.rtl.specs.Programs.{Program}
use Rattle.rtl.specs.Meaning as Meaning
use Rattle.rtl.specs.Meaning.{Run, Surroundings, around_callee, code_of, with_inst, words_in}
use Rattle.rtl.specs.Meaning.{state_after_call, state_after_return, state_after_exit}
use Rattle.rtl.specs.declared.interpreter.Callee.{Callee}
use Rattle.rtl.specs.declared.interpreter.Frame.{Frame}

-- the result of an operator at two registers, or none
abbrev pub result_at : Op → Places → ℕ → ℕ → Option ℕ
result_at op r a b = chain (r a) (λ x. chain (r b) (λ y. op_result op x y))

-- the element of a global whose index a register has, or none
abbrev pub load_at : Places → Arrays → ℕ → ℕ → Option ℕ
load_at r g a i = chain (r i) (λ x. element_at g a x)

abbrev pub frame_of : Frame → Meaning.Frame
frame_of f = record {
  blocks = f.blocks.now;
  registers = places f.registers.items;
  code = record { insts = f.insts.now; exit = f.exit.now };
  result_to = f.result_to;
}

abbrev pub Interpreter : Type 0
Interpreter = Runs.Interpreter Frame

-- the same interpreter with other registers and globals
abbrev pub state_with : Interpreter → Places → Arrays → Run
state_with m r g = state_with_call frame_of m (record (frame_of m.frame) { registers = r }) g

-- the frame at the start of this block
abbrev pub frame_at : RBlock → Frame → Meaning.Frame
frame_at block f = record (frame_of f) { code = code_of block }

-- what is around the activation that runs
abbrev pub around : Program → (depth : ℕ) → Interpreter → Surroundings
around p depth m = record {
  program = p;
  depth = depth;
  result_to = m.frame.result_to;
  waiting = map frame_of (callers_of m);
  globals = arrays m.globals.items;
  output = m.output.items;
}

-- what a step has come to is this
abbrev pub Comes : Run → Reached → Interpreter → Type 0
Comes s r m = s ≡ reached_by frame_of r m

-- a value, if there is one, goes to a register
abbrev pub after_put : ℕ → Option ℕ → Interpreter → Run
after_put x v m =
    with_value v m.output.items (λ w. state_with m (places_with (places m.frame.registers.items) x (Some w)) (arrays m.globals.items))

-- an instruction of a program with these globals
abbrev pub after_inst : List RGlobal → RInst → Interpreter → Run
after_inst globals i m = with_inst globals i (places m.frame.registers.items) (arrays m.globals.items) m.output.items (state_with m)

-- on to a block of the same function
abbrev pub after_jump : ℕ → Interpreter → Run
after_jump b m =
    with_value (slice_get m.frame.blocks.now b) m.output.items (λ block.
    state_with_call frame_of m (frame_at block m.frame) (arrays m.globals.items))

-- a function is called with these words, and its result goes there
abbrev pub after_call : Program → (depth : ℕ) → Callee → List ℕ → Interpreter → Run
after_call p depth c vs m = state_after_call (around_callee (around p depth m) (frame_of m.frame) c.result_to) c.function vs

-- a function is called with the words of its arguments' registers, by a caller that goes on at this block
abbrev pub after_call_from : Program → (depth : ℕ) → Callee → (next : ℕ) → Interpreter → Run
after_call_from p depth c next m =
    with_value (words_in (places m.frame.registers.items) c.arguments.now) m.output.items (λ vs.
    with_value (slice_get m.frame.blocks.now next) m.output.items (λ block.
    state_after_call (around_callee (around p depth m) (frame_at block m.frame) c.result_to) c.function vs))

-- the activation returns, with a word or without
abbrev pub after_return : Option ℕ → Interpreter → Run
after_return v m = state_after_return v m.frame.result_to (map frame_of (callers_of m)) (arrays m.globals.items) m.output.items

-- the block is left by this exit
abbrev pub after_exit : Program → (depth : ℕ) → RExit → Interpreter → Run
after_exit p depth exit m = state_after_exit (around p depth m) m.frame.blocks.now (places m.frame.registers.items) exit
