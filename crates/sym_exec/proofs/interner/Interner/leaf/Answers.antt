use Rattle.term_labels.specs.Trees.{none}
use Rattle.sym_exec.proofs.Tickets.{err_always}
use Rattle.sym_exec.proofs.interner.Interner.leaf.Goals as goal

pub returns-clause-tree : goal.returns-clause-tree
returns-clause-tree c = c.in_ok-interned.ensures.tree none tt

pub returns-in_err-interned-clause-absent : goal.returns-in_err-interned-clause-absent
returns-in_err-interned-clause-absent c = err_always _ (c.in_err-interned.ensures.absent none tt)
