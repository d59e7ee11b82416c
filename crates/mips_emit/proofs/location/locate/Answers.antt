use Rattle.std.proofs.Common.{sym, ap, ◌∙◌, subst}
use Rattle.std.specs.Prelude.{slice_get}
use Rattle.mips_emit.specs.Locations.{FitsPlace}
use Rattle.mips_emit.proofs.Operands.{place_fits}
use Rattle.mips_emit.proofs.location.locate.Goals as goal

pub returns-clause-value : goal.returns-clause-value
returns-clause-value c = c.home_at.ensures ∙ ap (λ hs. slice_get hs c.args.x) c.as_slice.ensures.value

pub returns-clause-fits : goal.returns-clause-fits
returns-clause-fits c = subst FitsPlace (sym (returns-clause-value c)) (place_fits c.args.frame.now c.requires c.args.x)
