use Rattle.std.proofs.Common.{sym}
use Rattle.block_validator.specs.declared.place.Place.TheVariants as places
use Rattle.block_validator.proofs.Meaning.{checked_means}
use Rattle.block_validator.proofs.verdict.Checked.order.Goals as goal

pub returns-clause-exit : goal.returns-clause-exit
returns-clause-exit c = rw (sym c.self.view_is) (c.self.invariant.same places.Exit tt).0

pub returns-clause-means : goal.returns-clause-means
returns-clause-means c = rw (sym c.self.view_is) (checked_means _ c.self.invariant)
