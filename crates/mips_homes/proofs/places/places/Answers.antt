use Rattle.std.proofs.Common.{subst, sym}
use Rattle.std.proofs.lemmas.Result.{IfOk-weaker}
use Rattle.mips_homes.specs.Walks.{TellsLocals, TellsReaches}
use Rattle.mips_homes.proofs.places.places.Goals as goal

pub returns : goal.returns
returns c =
    let bs = c.args.blocks.now in
    let local = subst (λ l. TellsLocals l bs) (sym c.as_slice.ensures.value) c.in_ok-sights.ensures in
    let reach = subst (λ l. TellsReaches l bs) (sym c.as_slice-2.ensures.value) c.in_ok-reaches.ensures in
    IfOk-weaker c.places_by.result _ _ (λ hs h. h bs local reach) c.places_by.ensures
