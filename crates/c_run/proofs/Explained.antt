-- Why a run ended: what is left of its steps, and a reason exactly where it ended wrong.
use Rattle.std.proofs.Common.{◌≡◌, ◌↔◌, ℕ, suc, List, Option, Some, refl, sym, ◌∙◌, ap}
use Rattle.std.specs.Prelude.{IsSome}
use Rattle.std.proofs.lemmas.Option.{none-some, same_Some}
use Rattle.runs.specs.declared.ran.End.{End}
use Rattle.runs.specs.declared.ran.End.TheVariants.{Done, Wrong}
use Rattle.runs.specs.declared.reached.Reached.{Reached}
use Rattle.runs.specs.declared.reached.Reached.TheVariants.{Going, Ended, Failed}
use Rattle.runs.specs.Runs.{Outcome, outcome, steps}
use Rattle.runs.specs.Steps.{end_of, outcome_after}
use Rattle.runs.specs.Calls.{state_by, reached_by}
use Rattle.runs.proofs.Running.{by-step}
use Rattle.c_typed.specs.Trees.{TypedProgram}
use Rattle.c_typed.specs.Meaning.{source_step}
use Rattle.c_run.specs.declared.reasons.Reason.{Reason}
use Rattle.c_run.specs.Interpreter.{Interpreter, frame_of}

-- what so many steps from here come to
abbrev pub comes_to : TypedProgram → (depth : ℕ) → Interpreter → ℕ → Outcome
comes_to p depth m n = outcome (steps (source_step p depth) n (state_by frame_of m))

pub by-one-step : (p : TypedProgram) (depth : ℕ) (m after : Interpreter) (r : Reached)
    → source_step p depth (state_by frame_of m) ≡ reached_by frame_of r after → (n : ℕ)
    → comes_to p depth m (suc n) ≡ outcome_after r (comes_to p depth after n) after.output.items
by-one-step p depth m after r is =
    by-step (source_step p depth) (state_by frame_of m) (state_by frame_of after) r after.output.items
    (record { ended = λ w out. refl; failed = λ out. refl }) is

-- a run that ended by a step has a reason exactly where the step failed
pub ended-by : (r : Reached) (end : End) (out : List ℕ) (whole : Outcome) (reason : Option Reason) → (IsSome reason ↔ (r ≡ Failed))
    → end_of r ≡ Some end → record { end = end; output = out } ≡ whole → IsSome reason ↔ (whole.end ≡ Wrong)
ended-by Going end out whole reason is e w = absurd (none-some end e)
ended-by (Ended v) end out whole reason is e w =
    let last : whole.end ≡ Done v = sym (ap (λ (o : Outcome). o.end) w) ∙ sym (same_Some (Done v) end e) in
    (λ some. let failed : Ended v ≡ Failed = is.0 some in cc, λ wrong. cc)
ended-by Failed end out whole reason is e w =
    let last : whole.end ≡ Wrong = sym (ap (λ (o : Outcome). o.end) w) ∙ sym (same_Some Wrong end e) in
    (λ some. last, λ wrong. is.1 refl)
