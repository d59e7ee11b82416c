use Rattle.term_labels.specs.Trees.{none, more}
use Rattle.sym_exec.proofs.Tickets.{err_always}
use Rattle.sym_exec.proofs.interner.Interner.binary.Goals as goal

pub returns-clause-tree : goal.returns-clause-tree
returns-clause-tree c = λ x y a b. c.in_ok-interned.ensures.tree (more x (more y none)) (a, (b, tt))

pub returns-in_err-interned-clause-absent : goal.returns-in_err-interned-clause-absent
returns-in_err-interned-clause-absent c = λ x y a b. err_always _ (c.in_err-interned.ensures.absent (more x (more y none)) (a, (b, tt)))
