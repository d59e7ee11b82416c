-- One step of a run after another: what each keeps, what it comes to, and when the run is over.
use Rattle.std.specs.Prelude.{◌≡◌, ℕ, ◌+◌, List, Option, Some, None}
use Rattle.runs.specs.declared.ran.End.{End}
use Rattle.runs.specs.declared.ran.End.TheVariants.{Done, Wrong, More}
use Rattle.runs.specs.declared.reached.Reached.{Reached}
use Rattle.runs.specs.declared.reached.Reached.TheVariants as Reach
use Rattle.runs.specs.Runs.{Outcome, Configuration, Ended, Failed, steps}

-- what holds at the start, and each step keeps, holds after so many
pub record IsKept {S : Type 0} (Holds : S → Type 0) (next : S → S) (first : S) : Type 0 where
  pub start : Holds first
  pub step : (s : S) → Holds s → Holds (next s)
  pub reached : (n : ℕ) → Holds (steps next n first)

-- a number of steps is taken in two parts, and a run that ended or failed stays so
pub record GoesOnFromWhereItIs {Call : Type 0} (step : Configuration Call → Configuration Call) : Type 0 where
  pub sum : (a b : ℕ) (s : Configuration Call) → steps step (a + b) s ≡ steps step b (steps step a s)
  pub ended : (n w : ℕ) (out : List ℕ) → steps step n (Ended w out) ≡ Ended w out
  pub failed : (n : ℕ) (out : List ℕ) → steps step n (Failed out) ≡ Failed out

-- how a run ended, or none where it goes on
abbrev pub end_of : Reached → Option End
end_of Reach.Going = None
end_of (Reach.Ended w) = Some (Done w)
end_of Reach.Failed = Some Wrong

-- what the return of the last call comes to: its word ends the program
abbrev pub last_reached : Option ℕ → Reached
last_reached None = Reach.Failed
last_reached (Some w) = Reach.Ended w

-- what a step has come to: this state, where the run goes on, and else the end with this output
abbrev pub after_step : {Call : Type 0} → Reached → Configuration Call → List ℕ → Configuration Call
after_step Reach.Going s out = s
after_step (Reach.Ended w) s out = Ended w out
after_step Reach.Failed s out = Failed out

-- what a run comes to by a step that has come to this. It is the rest of it, where it goes on, and else the end with this output
abbrev pub outcome_after : Reached → Outcome → List ℕ → Outcome
outcome_after Reach.Going rest out = rest
outcome_after (Reach.Ended w) rest out = record { end = Done w; output = out }
outcome_after Reach.Failed rest out = record { end = Wrong; output = out }

-- a run that would go on, with this output
abbrev pub unfinished : List ℕ → Outcome
unfinished out = record { end = More; output = out }
