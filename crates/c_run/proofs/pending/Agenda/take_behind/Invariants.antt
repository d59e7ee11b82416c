use Rattle.std.proofs.Common.{◌≡◌, ◌≤◌, length}
use Rattle.c_run.specs.Interpreter.{todos, waiting_of}
use Rattle.c_run.specs.Sizes.{load, weights}
use Rattle.c_run.proofs.pending.Agenda.take_behind.Given as goal

abbrev pub invariant-loop-t : goal.invariant-loop-t
invariant-loop-t l = record {
  same : waiting_of l.self.behind.items ≡ todos l.fn.self;
  less : weights l.self.behind.items ≤ load l.fn.self;
  list : l.self.list ≡ l.fn.self.list;
}

abbrev pub decreases-loop-t : goal.decreases-loop-t
decreases-loop-t l = length l.self.behind.items
