use Rattle.rtl_emit.specs.Blocks.{spot}
use Rattle.rtl_emit.proofs.Emitting.{number_emits}
use Rattle.rtl_emit.proofs.simple.number_into.Goals as goal

pub returns : goal.returns
returns c = λ bs. number_emits bs _ _ _ c.in_ok-from.from (spot c.args.aim.after) c.in_ok-from.ensures
