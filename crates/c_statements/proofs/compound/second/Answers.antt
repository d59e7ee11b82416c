use Rattle.std.proofs.Common.{refl, sym, ◌∙◌}
use Rattle.c_statements.proofs.compound.second.Goals as goal

pub returns-clause-ok : goal.returns-clause-ok
returns-clause-ok g c = (_, sym c.both.ensures ∙ c.in_ok-part.was, refl)
