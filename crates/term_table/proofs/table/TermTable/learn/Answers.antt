use Rattle.std.proofs.Common.{rules}
use Rattle.term_table.proofs.Callers.{extends_learned, still_of, legal_learned, learns_learned}
use Rattle.term_table.proofs.table.TermTable.learn.Goals as goal

pub returns-clause-learned : goal.returns-clause-learned
returns-clause-learned c = search rules

pub returns-clause-extends : goal.returns-clause-extends
returns-clause-extends c = extends_learned (returns-clause-learned c)

pub returns-clause-own : goal.returns-clause-own
returns-clause-own c = still_of (returns-clause-extends c) c.requires.table

pub returns-clause-legal : goal.returns-clause-legal
returns-clause-legal c = legal_learned (returns-clause-learned c)

pub returns-clause-learns : goal.returns-clause-learns
returns-clause-learns c = learns_learned (returns-clause-learned c)
