use Rattle.sym_terms.specs.NormalForms.{address_of}
use Rattle.sym_exec.specs.Symbolic.{register_tree}
use Rattle.sym_exec.proofs.Tickets.{get_tree, address-is}
use Rattle.sym_exec.proofs.registers.TermRegisters.address.Goals as goal

pub returns-clause-tree : goal.returns-clause-tree
returns-clause-tree c = λ t h.
    let x = register_tree t c.args.base in
    let at = c.address_at-from.ensures.tree x (get_tree {t = t} h c.get.ensures.value c.get.ensures.range) in
    rw (address-is x c.args.offset) (rw at.offset at (c.reach.ensures.tree (address_of x).base at.base))

pub returns-clause-absent : goal.returns-clause-absent
returns-clause-absent c = λ t h.
    let x = register_tree t c.args.base in
    let at = c.address_at-from.ensures.tree x (get_tree {t = t} h c.get.ensures.value c.get.ensures.range) in
    rw (address-is x c.args.offset) (rw at.offset at (c.reach.ensures.absent (address_of x).base at.base))
