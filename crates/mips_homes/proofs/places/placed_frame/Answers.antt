use Rattle.std.proofs.Common.{subst}
use Rattle.std.proofs.lemmas.Result.{IfOk-weaker}
use Rattle.mips_homes.specs.Places.{IsPlaced}
use Rattle.mips_homes.proofs.places.placed_frame.Goals as goal

pub returns : goal.returns
returns c = IfOk-weaker c.frame_with_places.result _ _ (λ f h. record {
  choice = c.in_ok-choice.choice;
  is = c.in_ok-choice.ensures.choice;
  placed = subst (λ bs. IsPlaced c.args.func.now.parameters bs c.in_ok-choice.choice f) c.as_slice.ensures.value h;
}) c.frame_with_places.ensures
