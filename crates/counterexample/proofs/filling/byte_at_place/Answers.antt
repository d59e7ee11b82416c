use Rattle.std.proofs.Common.{◌∙◌, ap}
use Rattle.std.specs.Prelude.{slice_index}
use Rattle.counterexample.proofs.Filled.{byte_taken}
use Rattle.counterexample.proofs.filling.byte_at_place.Goals as goal

pub returns : goal.returns
returns c = ap (λ xs. slice_index xs c.args.place) c.to_be_bytes.ensures ∙ byte_taken c.args.word c.args.place c.requires
