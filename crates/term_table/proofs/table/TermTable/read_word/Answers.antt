use Rattle.std.proofs.Common.{arith, rules}
use Rattle.term_table.proofs.Callers.{extends_answered}
use Rattle.term_table.proofs.Public.{read_low}
use Rattle.term_table.proofs.table.TermTable.read_word.Goals as goal

pub children_of-requires : goal.children_of-requires
children_of-requires c = λ i pos lt.
    omega (arith, read_low _ c.read_as-words.result _ _ _ _ c.read_as-words.ensures.ended i pos lt, c.self.inside.nodes.small)

pub returns-clause-answered : goal.returns-clause-answered
returns-clause-answered c = search rules

pub returns-clause-extends : goal.returns-clause-extends
returns-clause-extends c = extends_answered (returns-clause-answered c)
