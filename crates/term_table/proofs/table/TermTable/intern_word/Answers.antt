use Rattle.std.proofs.Common.{refl, arith, rules}
use Rattle.term_table.proofs.Public.{hit_low, linked_low}
use Rattle.term_table.proofs.Callers.{extends_answered, full_linked}
use Rattle.term_table.proofs.table.TermTable.intern_word.Goals as goal

pub new-ticket-requires : goal.new-ticket-requires
new-ticket-requires c =
    omega (arith, hit_low _ _ _ _ c.intern_with-end.ensures.ended (_, _, refl) _ c.in-Hit.is, c.self.inside.nodes.small)

pub overflow_add-pass : goal.overflow_add-pass
overflow_add-pass c =
    omega (arith, linked_low _ _ _ _ c.intern_with-end.ensures.ended c.in-Linked.is, c.pass.invariant.own, c.self.inside.nodes.small)

pub new-ticket-requires-in-Linked : goal.new-ticket-requires-in-Linked
new-ticket-requires-in-Linked c =
    omega (arith, linked_low _ _ _ _ c.intern_with-end.ensures.ended c.in-Linked.is, c.pass.invariant.own, c.self.inside.nodes.small)

pub returns-clause-answered : goal.returns-clause-answered
returns-clause-answered c = search rules

pub returns-clause-extends : goal.returns-clause-extends
returns-clause-extends c = extends_answered (returns-clause-answered c)

pub returns-in-NoRoom-clause-answered : goal.returns-in-NoRoom-clause-answered
returns-in-NoRoom-clause-answered c = search rules

pub returns-in-NoRoom-clause-extends : goal.returns-in-NoRoom-clause-extends
returns-in-NoRoom-clause-extends c = extends_answered (returns-in-NoRoom-clause-answered c)

pub returns-in-NoRoom-clause-full : goal.returns-in-NoRoom-clause-full
returns-in-NoRoom-clause-full c = full_linked (returns-in-NoRoom-clause-answered c)
