use Rattle.mips_select.proofs.Blocks.{block_step}
use Rattle.mips_select.proofs.pieces.pieces_of.Goals as goal

pub loop-block-preserved : goal.loop-block-preserved
loop-block-preserved c =
    let step = block_step _ c.in-Some.block _ _ _ _ _ _ _ _ c.in-Some.ensures.steps.0 c.renumber-exit.ensures c.exit.ensures
    c.in_ok-push_block.ensures c.loop-block.invariant.counts c.loop-block.invariant.made in
    record { counts = step.0; made = step.1 }
