-- What so many steps of a program under way come to.
use Rattle.std.specs.Prelude.{◌≡◌, ℕ, suc, Ok}
use Rattle.std.proofs.Common.{Result, MutBor}
use Rattle.runs.specs.Runs.{Outcome}
use Rattle.runs.specs.Steps.{outcome_after, unfinished}
use Rattle.runs.specs.declared.reached.Reached.{Reached}
use Rattle.runs.specs.declared.interpreter.Interpreter.{Interpreter}

-- a number of steps comes to what the first of them, by this relation, and the rest come to
pub record IsRunBy {F E : Type 0} (Step : MutBor (Interpreter F) → MutBor (Interpreter F) → Result Reached E → Type 0)
    (comes_to : Interpreter F → ℕ → Outcome) : Type 0 where
  pub without_steps : (m : Interpreter F) → comes_to m 0 ≡ unfinished m.output.items
  pub by_step : (p q : MutBor (Interpreter F)) (r : Reached) → Step p q (Ok r) → (n : ℕ)
      → comes_to p.now (suc n) ≡ outcome_after r (comes_to q.now n) q.now.output.items
