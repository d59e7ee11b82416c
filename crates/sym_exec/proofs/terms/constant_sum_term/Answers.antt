use Rattle.sym_terms.specs.NormalForms.{address_of}
use Rattle.sym_exec.proofs.Tickets.{goes_on, goes_more, interns_by}
use Rattle.sym_exec.proofs.terms.constant_sum_term.Goals as goal

pub returns-clause-tree : goal.returns-clause-tree
returns-clause-tree c = λ x y h.
    let at = c.address_at-at.ensures.tree x h in
    rw at.offset at (c.plus_term.ensures.tree (address_of x).base at.base)

pub returns-clause-absent : goal.returns-clause-absent
returns-clause-absent c = λ x y h.
    let at = c.address_at-at.ensures.tree x h in
    rw at.offset at (c.plus_term.ensures.absent (address_of x).base at.base)

pub returns-clause-pass : goal.returns-clause-pass
returns-clause-pass c = interns_by (goes_more c.address_at-at.ensures.pass (goes_on c.plus_term.ensures.pass)) c.plus_term.ensures.pass.full
