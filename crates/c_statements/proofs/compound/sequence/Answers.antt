use Rattle.std.proofs.Common.{refl, sym, ◌∙◌}
use Rattle.c_typed.proofs.Shapes.{block-is}
use Rattle.c_statements.proofs.compound.sequence.Goals as goal

pub returns-clause-ok : goal.returns-clause-ok
returns-clause-ok c = (_, sym c.both.ensures ∙ c.in_ok-both.was, rw (block-is c.in_ok-all.all, c.in_ok-all.ensures) refl)
