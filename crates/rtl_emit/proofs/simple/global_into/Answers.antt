use Rattle.rtl_emit.specs.Blocks.{spot}
use Rattle.rtl_emit.proofs.Emitting.{global_emits}
use Rattle.rtl_emit.proofs.simple.global_into.Goals as goal

pub returns : goal.returns
returns c = λ bs k.
    global_emits bs _ _ k _ _ _ c.in_ok-load.load c.in_ok-from.from (spot c.args.aim.after) c.in_ok-variable.ensures.is c.in_ok-index.ensures.is
    c.in_ok-index.ensures.within c.in_ok-load.ensures c.in_ok-from.ensures
