-- A typed program under way that goes on from where it is, for a part of its steps.
use Rattle.std.specs.Prelude.{◌≡◌, ℕ, []}
use Rattle.runs.specs.Runs.{Outcome, Running, Ended, Failed, outcome}
use Rattle.runs.specs.Calls.{state_by}
use Rattle.runs.specs.Portions.{after_output}
use Rattle.c_typed.specs.Trees.{TypedProgram}
use Rattle.c_typed.specs.Meaning.{Run, source_steps}
use Rattle.c_types.specs.Shape.{program_of}
use Rattle.c_run.specs.Interpreter.{frame_of}
use Rattle.c_run.specs.declared.portions.UnderWay.{UnderWay}

-- how far it has come
abbrev pub state_of : UnderWay → Run
state_of m = state_by frame_of m.interpreter

-- what n steps more of it come to
abbrev pub comes_to : UnderWay → ℕ → Outcome
comes_to m n = outcome (source_steps (program_of m.program.now) m.depth n (state_of m))

-- the same state with nothing written yet
abbrev pub emptied : Run → Run
emptied (Running calls g out) = Running calls g []
emptied (Ended w out) = Ended w []
emptied (Failed out) = Failed []

-- what was written so far is only the beginning of what a run writes
abbrev pub OutputGoesBefore : Type 0
OutputGoesBefore = (p : TypedProgram) (depth n : ℕ) (s : Run)
    → outcome (source_steps p depth n s) ≡ after_output (outcome s).output (outcome (source_steps p depth n (emptied s)))
