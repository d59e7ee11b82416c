use Rattle.std.proofs.Common.{◌≡◌, [], length}
use Rattle.c_run.specs.Turns.{at_turn}
use Rattle.c_run.specs.Interpreter.{todos, waiting_of}
use Rattle.c_run.proofs.pending.Agenda.to_turn.Given as goal

abbrev pub invariant-loop-t : goal.invariant-loop-t
invariant-loop-t l = record {
  same : at_turn (waiting_of l.self.behind.items) ≡ at_turn (todos l.fn.self);
  none : l.self.list.now ≡ [];
}

abbrev pub decreases-loop-t : goal.decreases-loop-t
decreases-loop-t l = length l.self.behind.items
