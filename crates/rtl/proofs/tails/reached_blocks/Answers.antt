use Rattle.rtl.proofs.Duplication.{marked_next}
use Rattle.rtl.proofs.tails.reached_blocks.Goals as goal

pub loop-block-preserved : goal.loop-block-preserved
loop-block-preserved c =
    marked_next c.args.blocks.now c.loop-block.marks.items c.mark_exit.new.marks.items c.loop-block.block-index c.block-item.result c.block-item.result
    c.loop-block-test.true c.block-item.is c.loop-block.invariant c.mark_exit.ensures
