use Rattle.std.proofs.Common.{rules}
use Rattle.term_table.proofs.Callers.{learns_noted}
use Rattle.term_table.proofs.table.TermTable.note.Goals as goal

pub returns-clause-seen : goal.returns-clause-seen
returns-clause-seen c = search rules

pub returns-clause-learns : goal.returns-clause-learns
returns-clause-learns c = learns_noted _ _ (returns-clause-seen c)
