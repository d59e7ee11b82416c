-- What the interpreter keeps, and the state that it stands for.
use Rattle.std.specs.Prelude.{◌≡◌, ℕ, List, [], ◌∷◌, Option, map, reverse}
use Rattle.runs.specs.Stores.{Places}
use Rattle.runs.specs.Kept.{places, arrays}
use Rattle.runs.specs.Calls.{callers_of, reached_by}
use Rattle.runs.specs.declared.interpreter.Interpreter as Runs
use Rattle.runs.specs.declared.reached.Reached.{Reached}
use Rattle.c_typed.specs.Trees.{TypedStatement, TypedProgram}
use Rattle.c_typed.specs.declared.tree.Destination.{Destination}
use Rattle.c_typed.specs.Shape.{statement_of, statements_of}
use Rattle.c_typed.specs.Meaning as Meaning
use Rattle.c_typed.specs.Meaning.{Todo, Do, Next, before, before_all, Point, Run, Surroundings, step_at, around_callee, state_after_assignment}
use Rattle.c_typed.specs.Meaning.{state_after_call, state_after_return}
use Rattle.c_run.specs.declared.pending.Pending.{Pending}
use Rattle.c_run.specs.declared.pending.Pending.TheVariants.{One, Rest, Turn}
use Rattle.c_run.specs.declared.pending.Agenda.{Agenda}
use Rattle.c_run.specs.declared.pending.Head.{Head}
use Rattle.c_run.specs.declared.pending.Head.TheVariants as Heads
use Rattle.c_run.specs.declared.interpreter.Frame.{Frame}

-- one that is pending, taken apart before the others
abbrev pub with_pending : Pending → List Todo → List Todo
with_pending (One s list) k = before (statement_of s.now) (before_all (statements_of list.now) k)
with_pending (Rest list) k = before_all (statements_of list.now) k
with_pending (Turn last again list) k = Next (statement_of last.now) (statement_of again.now) ∷ before_all (statements_of list.now) k

abbrev pub todo_list_of : List Pending → List Todo
todo_list_of [] = []
todo_list_of (t ∷ rest) = with_pending t (todo_list_of rest)

-- what waits, of which the last one is done first
abbrev pub waiting_of : List Pending → List Todo
waiting_of all = todo_list_of (reverse all)

-- what is left of the list comes before what waits
abbrev pub todos : Agenda → List Todo
todos a = before_all (statements_of a.list.now) (waiting_of a.behind.items)

-- what was first, and the others after it
abbrev pub with_head : Head → List Todo → List Todo
with_head Heads.Nothing k = []
with_head (Heads.Statement s) k = Do (statement_of s.now) ∷ k
with_head (Heads.Turn last again) k = Next (statement_of last.now) (statement_of again.now) ∷ k

-- the same of a statement that may be a list
abbrev pub with_part : Head → List Todo → List Todo
with_part Heads.Nothing k = []
with_part (Heads.Statement s) k = before (statement_of s.now) k
with_part (Heads.Turn last again) k = Next (statement_of last.now) (statement_of again.now) ∷ k

abbrev pub frame_of : Frame → Meaning.Frame
frame_of c = record { locals = places c.locals.items; todo = todos c.todo; result_to = c.result_to }

abbrev pub Interpreter : Type 0
Interpreter = Runs.Interpreter Frame

-- what surrounds the statements of the call that runs
abbrev pub around : TypedProgram → (depth : ℕ) → Interpreter → Surroundings
around p depth m = record {
  program = p;
  depth = depth;
  result_to = m.frame.result_to;
  waiting = map frame_of (callers_of m);
  globals = arrays m.globals.items;
  output = m.output.items;
}

-- what surrounds a call that it makes, while it waits
abbrev pub around_next_call : TypedProgram → (depth : ℕ) → Interpreter → (result_to : Option Destination) → Surroundings
around_next_call p depth m to = around_callee (around p depth m) (frame_of m.frame) to

-- a step at this list
abbrev pub state_after_step : TypedProgram → (depth : ℕ) → List Todo → Interpreter → Run
state_after_step p depth k m = step_at (around p depth m) (places m.frame.locals.items) k

-- this statement takes the interpreter before to what is reached, in one step of a program
abbrev pub DoesIn : TypedProgram → (depth : ℕ) → TypedStatement → Interpreter → Reached → Interpreter → Type 0
DoesIn p depth s before r after = state_after_step p depth (Do s ∷ todos before.frame.todo) before ≡ reached_by frame_of r after

-- the same at any depth
abbrev pub DoesAtAnyDepth : TypedProgram → TypedStatement → Interpreter → Reached → Interpreter → Type 0
DoesAtAnyDepth p s before r after = (depth : ℕ) → DoesIn p depth s before r after

-- the same in any program
abbrev pub Does : TypedStatement → Interpreter → Reached → Interpreter → Type 0
Does s before r after = (p : TypedProgram) → DoesAtAnyDepth p s before r after

-- a word goes to this place
abbrev pub Assigns : TypedProgram → Destination → ℕ → Interpreter → Reached → Interpreter → Type 0
Assigns p to v before r after = (depth : ℕ)
    → state_after_assignment (around p depth before) to v (places before.frame.locals.items) (todos before.frame.todo)
    ≡ reached_by frame_of r after

-- a function is called with these values
abbrev pub Calls : Surroundings → (f : ℕ) → List ℕ → Reached → Interpreter → Type 0
Calls w f vs r after = state_after_call w f vs ≡ reached_by frame_of r after

-- the call returns, with a word or without
abbrev pub Returns : TypedProgram → Option ℕ → Interpreter → Reached → Interpreter → Type 0
Returns p v before r after = (depth : ℕ) → state_after_return (around p depth before) v ≡ reached_by frame_of r after

-- the locals, with what comes first and the others after it
abbrev pub point_at : Places → Head → List Todo → Point
point_at l h k = record { locals = l; todo = with_head h k }
