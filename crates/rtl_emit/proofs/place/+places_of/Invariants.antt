use Rattle.std.proofs.Common.{length}
use Rattle.rtl_emit.proofs.place.+places_of.Given as goal

abbrev pub decreases-places_of : goal.decreases-places_of
decreases-places_of l = length l.es.now
