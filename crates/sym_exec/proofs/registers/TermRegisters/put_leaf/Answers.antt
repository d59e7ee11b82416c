use Rattle.sym_exec.proofs.Tickets.{tree_seen, hold_on, known_on, known_put, hold_put}
use Rattle.sym_exec.proofs.registers.TermRegisters.put_leaf.Goals as goal

pub returns-clause-known : goal.returns-clause-known
returns-clause-known c = let on = known_on c.in_ok-value.ensures.pass.later c.requires.known in
    known_put on (tree_seen c.in_ok-value.ensures.tree) c.set.ensures.value c.set.ensures.range c.set.ensures.count

pub returns-clause-hold : goal.returns-clause-hold
returns-clause-hold c = λ t h. let on = hold_on c.in_ok-value.ensures.pass.later h in
    hold_put {t = t} on c.in_ok-value.ensures.tree c.set.ensures.value c.set.ensures.range c.set.ensures.count
