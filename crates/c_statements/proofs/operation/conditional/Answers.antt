use Rattle.std.proofs.Common.{sym, rules, ◌∙◌}
use Rattle.c_statements.proofs.operation.conditional.Goals as goal

pub returns-clause-ok : goal.returns-clause-ok
returns-clause-ok c = (_, rw c.both.ensures at (sym c.both-2.ensures ∙ c.in_ok-test.was), search rules)
