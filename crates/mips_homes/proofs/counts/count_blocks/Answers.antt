use Rattle.std.proofs.Common.{refl, ◌++◌}
use Rattle.rtl.specs.Names.{insts_names, exit_names, blocks_names}
use Rattle.mips_homes.proofs.Counting.{counts_step, counts_end, blocks_split}
use Rattle.mips_homes.proofs.counts.count_blocks.Goals as goal

pub loop-block-preserved : goal.loop-block-preserved
loop-block-preserved c =
    counts_step blocks_names
    (λ b. insts_names b.insts.items ++ exit_names b.exit) blocks_split c.args.blocks.now c.loop-block.block-index c.block-item.result
    c.block-item.result _ _ _ c.loop-block-test.true c.block-item.is c.in_ok-count_block.ensures c.loop-block.invariant

pub returns : goal.returns
returns c = counts_end blocks_names refl c.args.blocks.now c.loop-block.block-index _ _ c.loop-block-test.false c.loop-block.invariant
