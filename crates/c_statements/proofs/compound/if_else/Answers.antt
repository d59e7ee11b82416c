use Rattle.std.proofs.Common.{refl, sym, ◌∙◌}
use Rattle.c_statements.proofs.compound.if_else.Goals as goal

pub returns-clause-ok : goal.returns-clause-ok
returns-clause-ok c = (_, rw (c.both.ensures, c.in_ok-first.ensures) at (sym c.both-2.ensures ∙ c.in_ok-condition.was), refl)
