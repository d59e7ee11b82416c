use Rattle.sym_exec.proofs.Tickets.{hold_on, known_on, known_put, hold_put}
use Rattle.sym_exec.proofs.registers.TermRegisters.computes.Goals as goal

pub returns-clause-known : goal.returns-clause-known
returns-clause-known c =
    known_put (known_on c.in_ok-value.ensures.pass.later c.requires) c.in_ok-value.ensures.seen c.set.ensures.value c.set.ensures.range c.set.ensures.count

pub returns-clause-hold : goal.returns-clause-hold
returns-clause-hold c = λ t h.
    hold_put {t = t} (hold_on c.in_ok-value.ensures.pass.later h) (c.in_ok-value.ensures.tree t h)
    c.set.ensures.value c.set.ensures.range c.set.ensures.count
