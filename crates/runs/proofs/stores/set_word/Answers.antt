use Rattle.std.proofs.Common.{ap, ◌∙◌, Some}
use Rattle.runs.specs.Stores.{Places, places_with}
use Rattle.runs.proofs.Kept.{places-set}
use Rattle.runs.proofs.stores.set_word.Goals as goal

pub returns-clause-ok : goal.returns-clause-ok
returns-clause-ok c = places-set _ c.args.number (Some c.args.v) c.in_ok-make_room.ensures.room
    ∙ ap (λ (p : Places). places_with p c.args.number (Some c.args.v)) c.in_ok-make_room.ensures.same
