use Rattle.std.proofs.Common.{sym, ◌∙◌}
use Rattle.c_statements.proofs.simple.with_one.Goals as goal

pub returns-clause-ok : goal.returns-clause-ok
returns-clause-ok g c = (_, sym c.both.ensures ∙ c.in_ok-all.was, c.in_ok-push.ensures.items)
