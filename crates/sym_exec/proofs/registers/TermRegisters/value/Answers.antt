use Rattle.sym_exec.proofs.Tickets.{on_err_weaker, lacks_here, lacks_next, get_tree}
use Rattle.sym_exec.proofs.registers.TermRegisters.value.Goals as goal

pub returns-in-Held-clause-absent : goal.returns-in-Held-clause-absent
returns-in-Held-clause-absent c = λ t h.
    rw c.in-Held.is (on_err_weaker c.op_term.result (λ l. lacks_next _ (lacks_here l)) (c.op_term.ensures.absent _ _
    (get_tree {t = t} h c.get.ensures.value c.get.ensures.range) (get_tree {t = t} h c.get-in-Held.ensures.value c.get-in-Held.ensures.range)))
