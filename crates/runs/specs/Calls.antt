-- The calls of a program under way, and how far its run has come.
use Rattle.std.specs.Prelude.{List, ◌∷◌, map, reverse}
use Rattle.runs.specs.Stores.{Arrays}
use Rattle.runs.specs.Kept.{arrays}
use Rattle.runs.specs.Runs.{Configuration, Running}
use Rattle.runs.specs.Steps.{after_step}
use Rattle.runs.specs.declared.reached.Reached.{Reached}
use Rattle.runs.specs.declared.interpreter.Interpreter.{Interpreter}

-- the calls that wait, the latest one first
abbrev pub callers_of : {F : Type 0} → Interpreter F → List F
callers_of m = reverse m.waiting.items

-- the calls that are active: the one that runs, and those that wait
abbrev pub calls_of : {F : Type 0} → Interpreter F → List F
calls_of m = m.frame ∷ callers_of m

-- how far the run has come, by what the frame of a call stands for
abbrev pub state_by : {F Call : Type 0} → (F → Call) → Interpreter F → Configuration Call
state_by call_of m = Running (map call_of (calls_of m)) (arrays m.globals.items) m.output.items

-- the same with another call that runs, and with other globals
abbrev pub state_with_call : {F Call : Type 0} → (F → Call) → Interpreter F → Call → Arrays → Configuration Call
state_with_call call_of m call g = Running (call ∷ map call_of (callers_of m)) g m.output.items

-- what a step of it has come to
abbrev pub reached_by : {F Call : Type 0} → (F → Call) → Reached → Interpreter F → Configuration Call
reached_by call_of r m = after_step r (state_by call_of m) m.output.items
