use Rattle.mips_homes.proofs.Seeing.{are_seen_step, are_seen_end}
use Rattle.mips_homes.proofs.locals.sights.Goals as goal

pub loop-i-preserved : goal.loop-i-preserved
loop-i-preserved c =
    are_seen_step c.args.blocks.now c.loop-i.i _ _ _ c.loop-i-test.true c.index-blocks-i.is c.in_ok-see_block.ensures.first
    c.in_ok-see_block.ensures.late c.loop-i.invariant

pub returns : goal.returns
returns c = are_seen_end c.args.blocks.now c.loop-i.i _ c.loop-i-test.false c.loop-i.invariant
