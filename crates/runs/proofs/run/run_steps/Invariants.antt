use Rattle.std.proofs.Common.{◌≡◌, ◌-◌, ℕ}
use Rattle.runs.specs.Runs.{Outcome}
use Rattle.runs.specs.Results.{IsRunBy}
use Rattle.runs.specs.declared.interpreter.Interpreter.{Interpreter}
use Rattle.runs.proofs.run.run_steps.Given as goal

abbrev pub invariant-loop : goal.invariant-loop
invariant-loop g l =
    (comes_to : Interpreter _ → ℕ → Outcome) → IsRunBy (λ p q r. goal.S-post g l.step p r q) comes_to
    → comes_to l.interpreter (l.steps - l.counter) ≡ comes_to l.fn.interpreter l.steps
