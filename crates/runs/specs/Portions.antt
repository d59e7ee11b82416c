-- What runs in portions and writes words: so many steps or words of code more of it, and how many there were.
use Rattle.std.specs.Prelude.{◌≡◌, ◌≢◌, ℕ, ◌+◌, ◌<◌, ◌≤◌, List, length, ◌++◌, Option, Some, None, IfSome}
use Rattle.runs.specs.Runs.{RunOutcome}
use Rattle.runs.specs.declared.ran.Advance.{Advance}

-- the same with this output before it
abbrev pub after_output : {E : Type 0} → List ℕ → RunOutcome E → RunOutcome E
after_output out o = record { end = o.end; output = out ++ o.output }

-- what n more come to after some: as many from there, or nothing more where the run has ended
abbrev pub behind : {S E : Type 0} → (comes_to : S → ℕ → RunOutcome E) → Option E → S → ℕ → RunOutcome E
behind comes_to None s n = comes_to s n
behind comes_to (Some end) s n = record { end = end; output = (comes_to s 0).output }

-- so many ran, at most as many as were asked for. With fewer of them the run would go on, and a run of these and n more is a run of n
-- after these. Where it has an end, it wouldn't go on
pub record WentOn {S E : Type 0} (comes_to : S → ℕ → RunOutcome E) (more : E) (asked : ℕ) (old new : S) (advance : Advance E) : Type 0 where
  pub within : advance.ran ≤ asked
  pub before : (k : ℕ) → k < advance.ran → (comes_to old k).end ≡ more
  pub behind : (n : ℕ) → comes_to old (advance.ran + n) ≡ behind comes_to advance.end new n
  pub ended : IfSome advance.end (λ end. end ≢ more)

-- it stopped before as many ran as were asked for only where it ended, or holds so many words of output. Before the last one it held fewer
pub record StopsAt {S E : Type 0} (comes_to : S → ℕ → RunOutcome E) (outputs asked : ℕ) (old new : S) (advance : Advance E) : Type 0 where
  pub before : (k : ℕ) → 0 < k → k < advance.ran → length (comes_to old k).output < outputs
  pub stopped : advance.end ≡ None → advance.ran < asked → outputs ≤ length (comes_to new 0).output

-- so many of those that were asked for ran: they come to the same as all, with fewer the run would go on, and where it would go on after
-- all of them, all ran
pub record IsCount {E : Type 0} (comes_to : ℕ → RunOutcome E) (more : E) (asked count : ℕ) : Type 0 where
  pub within : count ≤ asked
  pub same : comes_to count ≡ comes_to asked
  pub before : (k : ℕ) → k < count → (comes_to k).end ≡ more
  pub all : (comes_to asked).end ≡ more → count ≡ asked
