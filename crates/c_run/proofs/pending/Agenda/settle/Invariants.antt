use Rattle.std.proofs.Common.{◌≡◌, length}
use Rattle.c_typed.specs.Meaning.{next_point, Going}
use Rattle.runs.specs.Kept.{places}
use Rattle.c_run.specs.Interpreter.{todos}
use Rattle.c_run.proofs.pending.Agenda.settle.Given as goal

abbrev pub invariant-loop-head : goal.invariant-loop-head
invariant-loop-head l = next_point Going (places l.locals.items) (todos l.self) ≡ next_point Going (places l.initial.locals.items) (todos l.fn.self)

abbrev pub decreases-loop-head : goal.decreases-loop-head
decreases-loop-head l = length (todos l.self)
