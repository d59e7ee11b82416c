use Rattle.std.proofs.Common.{◌≡◌, ◌-◌}
use Rattle.mips_machine.specs.UnitViews.{comes_to}
use Rattle.mips_machine.proofs.unit_runs.finish.Given as goal

-- what is left of the items gives the whole
abbrev pub invariant-loop : goal.invariant-loop
invariant-loop l = (comes_to (l.steps - l.counter) l.running ≡ comes_to l.steps l.fn.running)
