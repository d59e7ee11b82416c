use Rattle.std.proofs.Common.{arith, rules}
use Rattle.term_table.proofs.Callers.{extends_answered, still_of}
use Rattle.term_table.proofs.Public.{found_low}
use Rattle.term_table.proofs.table.TermTable.find_word.Goals as goal

pub new-requires : goal.new-requires
new-requires c = let low = found_low _ _ _ _ _ _ _ c.in-Some.is c.find_with-node.ensures.ended in
    let small = c.self.inside.nodes.small in omega arith

pub returns-clause-answered : goal.returns-clause-answered
returns-clause-answered c = search rules

pub returns-clause-extends : goal.returns-clause-extends
returns-clause-extends c = extends_answered (returns-clause-answered c)

pub returns-clause-own : goal.returns-clause-own
returns-clause-own c = still_of (returns-clause-extends c) c.requires.table
