use Rattle.std.proofs.Common.{◌≡◌}
use Rattle.c_run.specs.Interpreter.{todos}
use Rattle.c_run.specs.Sizes.{load}
use Rattle.c_run.proofs.pending.Agenda.take_first.Given as goal

abbrev pub invariant-loop-s : goal.invariant-loop-s
invariant-loop-s l = todos l.self ≡ todos l.fn.self

abbrev pub decreases-loop-s : goal.decreases-loop-s
decreases-loop-s l = load l.self
