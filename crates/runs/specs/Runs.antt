-- How a run of a program ended, and what it wrote.
use Rattle.std.specs.Prelude.{ℕ, zero, suc, List, Option, Some, None, All}
use Rattle.runs.specs.declared.ran.End.{End}
use Rattle.runs.specs.declared.ran.End.TheVariants.{Done, Wrong, More}
use Rattle.runs.specs.declared.ran.Ran.{Ran}
use Rattle.runs.specs.Stores.{Arrays, IsWord, ArraysHoldWords}

-- how a run ended, in the way of its kind, and what it wrote
pub record RunOutcome (E : Type 0) : Type 0 where
  pub end : E
  pub output : List ℕ

-- of a program's run, at any level
abbrev pub Outcome : Type 0
Outcome = RunOutcome End

abbrev pub outcome_of : Ran → Outcome
outcome_of r = record { end = r.end; output = r.output.items }

-- how far a run has come, with its output so far: the calls that run or wait, and the globals
pub data Configuration (Call : Type 0) : Type 0 where
  Running : List Call → Arrays → List ℕ → Configuration Call
  Ended : ℕ → List ℕ → Configuration Call
  Failed : List ℕ → Configuration Call

-- goes on with a value, or fails
abbrev pub with_value : {Call A : Type 0} → Option A → List ℕ → (A → Configuration Call) → Configuration Call
with_value None out go = Failed out
with_value (Some a) out go = go a

-- what a run that goes no further comes to
abbrev pub outcome : {Call : Type 0} → Configuration Call → Outcome
outcome (Running calls g out) = record { end = More; output = out }
outcome (Ended w out) = record { end = Done w; output = out }
outcome (Failed out) = record { end = Wrong; output = out }

-- so many steps
abbrev pub steps : {S : Type 0} → (S → S) → ℕ → S → S
steps step zero s = s
steps step (suc n) s = steps step n (step s)

-- nothing but words: in its calls by their own rule, in its globals, in its output, and as its result
abbrev pub HoldsWords : {Call : Type 0} → (Call → Type 0) → Configuration Call → Type 0
HoldsWords Holds (Running calls g out) = All Holds calls × (ArraysHoldWords g × All IsWord out)
HoldsWords Holds (Ended w out) = IsWord w × All IsWord out
HoldsWords Holds (Failed out) = All IsWord out
