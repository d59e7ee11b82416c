use Rattle.sym_exec.proofs.Tickets.{on_err_weaker, lacks_here}
use Rattle.sym_exec.proofs.run.put_own.Goals as goal

pub returns-in-Call-clause-absent : goal.returns-in-Call-clause-absent
returns-in-Call-clause-absent c =
    rw c.in-Call.is (on_err_weaker c.put_leaf.result lacks_here c.put_leaf.ensures.absent)

pub returns-in-Out-clause-absent : goal.returns-in-Out-clause-absent
returns-in-Out-clause-absent c =
    rw c.in-Out.is (on_err_weaker c.put_leaf-in-Out.result lacks_here c.put_leaf-in-Out.ensures.absent)

pub returns-in-Halt-clause-absent : goal.returns-in-Halt-clause-absent
returns-in-Halt-clause-absent c =
    rw c.in-Halt.is (on_err_weaker c.put_leaf-in-Halt.result lacks_here c.put_leaf-in-Halt.ensures.absent)
