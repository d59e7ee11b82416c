use Rattle.std.proofs.Common.{◌∷◌, [], ◌++◌, append_assoc, ap, ◌∙◌, List}
use Rattle.rtl_emit.specs.declared.place.Place.{Place}
use Rattle.rtl_emit.proofs.place.+places_of.Goals as goal

pub returns-clause-begins : goal.returns-clause-begins
returns-clause-begins t c =
    let b = c.places_of.ensures.begins in
    let p = c.in_ok-first_place.first_place in
    (p ∷ b.0, b.1 ∙ ap (λ (ps : List Place). ps ++ b.0) c.in_ok-put_place.ensures.added ∙ append_assoc c.args.places.now.items (p ∷ []) b.0)
