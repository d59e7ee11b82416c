use Rattle.sym_exec.proofs.Tickets.{hold_on, known_on, err_always, lacks_here}
use Rattle.sym_exec.specs.Asked.{asked_first}
use Rattle.sym_exec.proofs.run.start.Goals as goal

pub returns-clause-start : goal.returns-clause-start
returns-clause-start c = record {
  known = known_on c.in_ok-memory.ensures.pass.later c.in_ok-regs.ensures.known;
  hold = hold_on c.in_ok-memory.ensures.pass.later c.in_ok-regs.ensures.hold;
  memory = c.in_ok-memory.ensures.tree;
}

pub returns-in_err-memory-clause-absent : goal.returns-in_err-memory-clause-absent
unfolding asked_first
returns-in_err-memory-clause-absent c = err_always _ (lacks_here c.in_err-memory.ensures.absent)
