use Rattle.term_labels.specs.Trees.{none, more}
use Rattle.sym_exec.proofs.Tickets.{err_always}
use Rattle.sym_exec.proofs.interner.Interner.ternary.Goals as goal

pub returns-clause-tree : goal.returns-clause-tree
returns-clause-tree c = λ x y z i j k. c.in_ok-interned.ensures.tree (more x (more y (more z none))) (i, (j, (k, tt)))

pub returns-in_err-interned-clause-absent : goal.returns-in_err-interned-clause-absent
returns-in_err-interned-clause-absent c = λ x y z i j k.
    err_always _ (c.in_err-interned.ensures.absent (more x (more y (more z none))) (i, (j, (k, tt))))
