-- What a program does, one step after another (C99 5.1.2.3, 6.8): each assignment, test, call, return and output is one
-- step. A declaration, `break` and `continue` are none.
use Rattle.std.specs.Prelude.{ℕ, List, [], ◌∷◌, ◌++◌, Option, Some, None, length, nat_lt, if◌then◌else◌, ◌==◌, slice_get, map, replicate}
use Rattle.runs.specs.Stores.{Places, unset_places, places_with, Arrays, arrays_with, chain}
use Rattle.runs.specs.Runs.{Outcome, Configuration, Running, Ended, Failed, with_value, steps, outcome}
use Rattle.words.specs.Words.{wrap}
use Rattle.words.specs.Widths.{kept}
use Rattle.c_typed.specs.declared.tree.Destination.{Destination}
use Rattle.c_typed.specs.declared.tree.Destination.TheVariants.{Local, Global as Variable}
use Rattle.c_typed.specs.declared.tree.Global.{Global}
use Rattle.c_typed.specs.Trees.{TypedExpression, TypedStatement, TypedStatements, empty, block, unset, assign, store, call, output, if_else, loop}
use Rattle.c_typed.specs.Trees.{break_loop, continue_loop}
use Rattle.c_typed.specs.Trees.{return_with, no_statements, more_statements, TypedProgram}
use Rattle.c_typed.specs.Values.{value_of, values_of}

-- what is still to do: a statement, or the end of a loop's turn, where its last part comes and then the loop again
pub data Todo : Type 0 where
  Do : TypedStatement → Todo
  Next : (last again : TypedStatement) → Todo

-- a statement before the others; lists of statements are taken apart
abbrev mutual
  pub before : TypedStatement → List Todo → List Todo
  before empty k = k
  before (block all) k = before_all all k
  before (unset x) k = Do (unset x) ∷ k
  before (assign x e) k = Do (assign x e) ∷ k
  before (store a i e) k = Do (store a i e) ∷ k
  before (call to f all) k = Do (call to f all) ∷ k
  before (output e) k = Do (output e) ∷ k
  before (if_else c a b) k = Do (if_else c a b) ∷ k
  before (loop c last body) k = Do (loop c last body) ∷ k
  before break_loop k = Do break_loop ∷ k
  before continue_loop k = Do continue_loop ∷ k
  before (return_with e) k = Do (return_with e) ∷ k

  pub before_all : TypedStatements → List Todo → List Todo
  before_all no_statements k = k
  before_all (more_statements s rest) k = before s (before_all rest k)

-- going on, or leaving a loop by `break`, or its turn by `continue`
pub data Mode : Type 0 where
  Going : Mode
  Breaking : Mode
  Continuing : Mode

-- the locals, and what is still to do
pub record Point : Type 0 where
  pub locals : Places
  pub todo : List Todo

-- on to the next statement that takes a step
abbrev pub next_point : Mode → Places → List Todo → Point
next_point m l [] = record { locals = l; todo = [] }
next_point Going l (Do (unset x) ∷ k) = next_point Going (places_with l x None) k
next_point Going l (Do break_loop ∷ k) = next_point Breaking l k
next_point Going l (Do continue_loop ∷ k) = next_point Continuing l k
next_point Going l (Next last again ∷ k) = record { locals = l; todo = before last (before again k) }
next_point Going l (Do s ∷ k) = record { locals = l; todo = Do s ∷ k }
next_point Breaking l (Do s ∷ k) = next_point Breaking l k
next_point Breaking l (Next last again ∷ k) = next_point Going l k
next_point Continuing l (Do s ∷ k) = next_point Continuing l k
next_point Continuing l (Next last again ∷ k) = record { locals = l; todo = before last (before again k) }

-- a call that runs or waits, and where its result goes, if anywhere
pub record Frame : Type 0 where
  pub locals : Places
  pub todo : List Todo
  pub result_to : Option Destination

abbrev pub Run : Type 0
Run = Configuration Frame

-- what surrounds the statements that run: the program, with a bound on the calls that are active. This call's result
-- goes somewhere, other calls wait, globals hold words, and there is output
pub record Surroundings : Type 0 where
  pub program : TypedProgram
  pub depth : ℕ
  pub result_to : Option Destination
  pub waiting : List Frame
  pub globals : Arrays
  pub output : List ℕ

-- the call that runs, at these locals, with this to do
abbrev pub frame_at : Surroundings → Places → List Todo → Frame
frame_at w l k = record { locals = l; todo = k; result_to = w.result_to }

abbrev pub at : Surroundings → Places → List Todo → Run
at w l k = Running (frame_at w l k ∷ w.waiting) w.globals w.output

-- goes on with the value of an expression, or fails
abbrev pub with_value_of : Surroundings → Places → TypedExpression → (ℕ → Run) → Run
with_value_of w l e go = with_value (value_of e l w.globals) w.output go

-- what an element of a global keeps of a word, or none where there is no such global
abbrev pub kept_in : List Global → ℕ → ℕ → Option ℕ
kept_in globals a v = chain (slice_get globals a) (λ global. Some (kept global.width v))

-- the globals after an assignment to an element, which keeps what its width lets it (C99 6.3.1.3), or none outside
abbrev pub elements_with : List Global → Arrays → ℕ → ℕ → ℕ → Option Arrays
elements_with globals g a i v = chain (kept_in globals a v) (λ w. arrays_with g a i w)

-- a word goes to an element of a global
abbrev pub state_after_store : Surroundings → (global index word : ℕ) → Places → List Todo → Run
state_after_store w a i v l k =
    with_value (elements_with w.program.globals w.globals a i v) w.output (λ g. at (record w { globals = g }) l k)

-- a word goes to a local, or to a global variable
abbrev pub state_after_assignment : Surroundings → Destination → (word : ℕ) → Places → List Todo → Run
state_after_assignment w (Local x) v l k = at w (places_with l x (Some v)) k
state_after_assignment w (Variable x) v l k = state_after_store w x 0 v l k

-- the arguments are the first locals
abbrev pub argument_places : List ℕ → Places
argument_places vs = λ x. slice_get vs x

-- what surrounds a call whose caller waits for it
abbrev pub around_callee : Surroundings → (caller : Frame) → (result_to : Option Destination) → Surroundings
around_callee w caller to = record w { result_to = to; waiting = caller ∷ w.waiting }

-- a call of a function begins, where the bound on the calls that are active lets it
abbrev pub state_after_call : Surroundings → (function : ℕ) → (arguments : List ℕ) → Run
state_after_call w f vs =
    with_value (slice_get w.program.functions f) w.output (λ function.
    if nat_lt (length w.waiting) w.depth then at w (argument_places vs) (before_all function.body []) else Failed w.output)

-- a word or none comes to the calls that wait: where a word is wanted there has to be one. The last call's word ends the
-- run
abbrev pub state_with_result : Surroundings → Option ℕ → (result_to : Option Destination) → (waiting : List Frame) → Run
state_with_result w v to [] = with_value v w.output (λ v. Ended v w.output)
state_with_result w v None (f ∷ frames) = Running (f ∷ frames) w.globals w.output
state_with_result w v (Some place) (f ∷ frames) =
    with_value v w.output (λ v.
    state_after_assignment (record w { result_to = f.result_to; waiting = frames }) place v f.locals f.todo)

-- a return with a word or without, to the call below
abbrev pub state_after_return : Surroundings → Option ℕ → Run
state_after_return w v = state_with_result w v w.result_to w.waiting

-- by the word of a test
abbrev pub todo_of_test : ℕ → List Todo → List Todo → List Todo
todo_of_test v a b = if v == 0 then b else a

-- one step, at a statement that takes one
abbrev pub step_at : Surroundings → Places → List Todo → Run
step_at w l (Do (assign x e) ∷ k) = with_value_of w l e (λ v. state_after_assignment w x v l k)
step_at w l (Do (store a i e) ∷ k) = with_value_of w l i (λ x. with_value_of w l e (λ v. state_after_store w a x v l k))
step_at w l (Do (call to f all) ∷ k) =
    with_value (values_of all l w.globals) w.output (λ vs. state_after_call (around_callee w (frame_at w l k) to) f vs)
step_at w l (Do (output e) ∷ k) = with_value_of w l e (λ v. at (record w { output = w.output ++ v ∷ [] }) l k)
step_at w l (Do (if_else c a b) ∷ k) = with_value_of w l c (λ v. at w l (todo_of_test v (before a k) (before b k)))
step_at w l (Do (loop c last body) ∷ k) =
    with_value_of w l c (λ v. at w l (todo_of_test v (before body (Next last (loop c last body) ∷ k)) k))
step_at w l (Do (return_with None) ∷ k) = state_after_return w None
step_at w l (Do (return_with (Some e)) ∷ k) = with_value_of w l e (λ v. state_after_return w (Some v))
step_at w l _ = Failed w.output

abbrev pub source_step : TypedProgram → ℕ → Run → Run
source_step p depth (Running [] g out) = Failed out
source_step p depth (Running (f ∷ frames) g out) =
    let w : Surroundings = record {
      program = p;
      depth = depth;
      result_to = f.result_to;
      waiting = frames;
      globals = g;
      output = out;
    } in
    let point = next_point Going f.locals f.todo in step_at w point.locals point.todo
source_step p depth (Ended w out) = Ended w out
source_step p depth (Failed out) = Failed out

abbrev pub source_steps : TypedProgram → (depth n : ℕ) → Run → Run
source_steps p depth n s = steps (source_step p depth) n s

-- the words that the elements of a global hold at first
abbrev pub first_words : Global → List ℕ
first_words a = replicate a.length (kept a.width (wrap a.first))

-- before the first step: a call of `main`
abbrev pub source_start : TypedProgram → Run
source_start p =
    with_value (slice_get p.functions p.main) [] (λ main.
    Running (record { locals = unset_places; todo = before_all main.body []; result_to = None } ∷ []) (map first_words p.globals) [])

-- what so many steps of a program come to, with at most so many calls active at once
abbrev pub source_run : TypedProgram → (depth n : ℕ) → Outcome
source_run p depth n = outcome (source_steps p depth n (source_start p))
