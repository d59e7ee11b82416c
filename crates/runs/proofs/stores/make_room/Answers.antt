use Rattle.std.proofs.Common.{ap, ◌∙◌}
use Rattle.runs.specs.Kept.{places}
use Rattle.runs.proofs.Kept.{places-push}
use Rattle.runs.proofs.stores.make_room.Goals as goal

pub loop-words-preserved : goal.loop-words-preserved
loop-words-preserved c = ap places c.in_ok-push.ensures.items ∙ places-push _ ∙ c.loop-words.invariant
