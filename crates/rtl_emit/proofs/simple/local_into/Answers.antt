use Rattle.rtl_emit.specs.Blocks.{spot}
use Rattle.rtl_emit.proofs.Emitting.{local_emits}
use Rattle.rtl_emit.proofs.simple.local_into.Goals as goal

pub returns : goal.returns
returns c = λ bs k.
    local_emits bs _ _ k _ _ c.in_ok-from.from (spot c.args.aim.after) c.in_ok-register.ensures.is c.in_ok-register.ensures.within c.in_ok-from.ensures
