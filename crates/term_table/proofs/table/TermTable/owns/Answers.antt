use Rattle.std.proofs.Common.{rules, sym}
use Rattle.term_table.proofs.Opening.{own_sizes}
use Rattle.term_table.proofs.table.TermTable.owns.Goals as goal

pub returns-clause-sizes : goal.returns-clause-sizes
returns-clause-sizes c = search rules

pub returns-clause-own : goal.returns-clause-own
returns-clause-own c e =
    let n = c.self.inside.nodes in
    (returns-clause-sizes c).1
    (own_sizes c.pass.inside c.self.inside _ _ (sym c.pass.view_is) (sym c.self.view_is) c.pass.invariant.counts
    (n.words, n.slots, n.workers.0, n.workers.1) e)
