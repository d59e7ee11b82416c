use Rattle.std.proofs.Common.{refl}
use Rattle.runs.proofs.Running.{goes-on-from-where-it-is}
use Rattle.c_typed.specs.Meaning.{source_step}
use Rattle.c_typed.proofs.laws.runs_go_on_from_where_they_are.Goals as goal

pub returns : goal.returns
returns c p depth = goes-on-from-where-it-is (source_step p depth) (record { ended = λ w out. refl; failed = λ out. refl })
