use Rattle.std.proofs.Common.{refl}
use Rattle.runs.proofs.Running.{goes-on-from-where-it-is}
use Rattle.rtl.specs.Meaning.{rtl_step}
use Rattle.rtl.proofs.laws.runs_go_on_from_where_they_are.Goals as goal

pub returns : goal.returns
returns c p depth = goes-on-from-where-it-is (rtl_step p depth) (record { ended = λ w out. refl; failed = λ out. refl })
