use Rattle.std.proofs.Common.{refl, arith}
use Rattle.mips_select.specs.Heads.{heads_in}
use Rattle.mips_select.specs.Whole.{size_of_blocks, numbers}
use Rattle.mips_select.proofs.Linked.{one_at_least}
use Rattle.mips_select.proofs.Lists.{drop_item, made_more, all_made}
use Rattle.mips_select.proofs.numbers.number_blocks.Goals as goal

pub number-requires : goal.number-requires
number-requires c =
    let heads = heads_in c.args.table.now in
    let sizes = drop_item (size_of_blocks heads) c.args.blocks.now c.loop-block.block-index c.loop-block-test.true c.block-item.is in
    omega (arith, sizes, c.loop-block.invariant.0, one_at_least heads c.block-item.result.exit)

pub overflow_add-k : goal.overflow_add-k
overflow_add-k c =
    let heads = heads_in c.args.table.now in
    let sizes = drop_item (size_of_blocks heads) c.args.blocks.now c.loop-block.block-index c.loop-block-test.true c.block-item.is in
    omega (arith, sizes, c.loop-block.invariant.0, c.count_of-k.ensures.value)

pub loop-block-preserved : goal.loop-block-preserved
loop-block-preserved c =
    let heads = heads_in c.args.table.now in
    let blocks = c.args.blocks.now in
    let i = c.loop-block.block-index in
    let lt = c.loop-block-test.true in (
      omega (arith, drop_item (size_of_blocks heads) blocks i lt c.block-item.is, c.count_of-k.ensures.value, c.loop-block.invariant.0),
      rw (c.in_ok-push.ensures, c.number.ensures, c.count_of-k.ensures.value)
          (made_more (numbers heads c.loop-block.k) blocks i _ _ _ lt c.block-item.is refl c.loop-block.invariant.1),
    )

pub returns : goal.returns
returns c = all_made (numbers (heads_in c.args.table.now) c.loop-block.k) c.args.blocks.now c.loop-block.block-index c.loop-block-test.false refl
    c.loop-block.invariant.1
