use Rattle.std.proofs.Common.{◌+◌, suc, ◌≡◌, refl, arith}
use Rattle.std.proofs.lemmas.Option.{slice_get_read}
use Rattle.mips_select.specs.Plans.{linking_of, planning_of}
use Rattle.mips_select.specs.Whole.{size_of_blocks, blocks_from}
use Rattle.mips_select.proofs.Lists.{drop_item, made_more, all_made}
use Rattle.mips_select.proofs.functions.emit_blocks.Goals as goal

pub emit_block-requires-clause-number : goal.emit_block-requires-clause-number
emit_block-requires-clause-number c =
    let sizes = drop_item (size_of_blocks (planning_of c.args.plan.now).heads) c.args.blocks.now c.loop-j.j c.loop-j-test.true c.index-blocks-j.is in
    omega (arith, sizes, c.loop-j.invariant.0)

pub emit_block-requires-clause-block : goal.emit_block-requires-clause-block
emit_block-requires-clause-block c =
    (c.requires.blocks).by c.loop-j.j c.index-blocks-j.result (slice_get_read _ _ c.loop-j.j _ refl c.loop-j-test.true c.index-blocks-j.is)

pub loop-j-preserved : goal.loop-j-preserved
loop-j-preserved c =
    let l = linking_of c.args.linkage.now in
    let p = planning_of c.args.plan.now in
    let k = c.loop-j.k in
    let blocks = c.args.blocks.now in
    let j = c.loop-j.j in
    let lt = c.loop-j-test.true in
    let next : j + 1 ≡ suc j = omega arith in (
      omega (arith, drop_item (size_of_blocks p.heads) blocks j lt c.index-blocks-j.is, c.count_of-k.ensures.value, c.loop-j.invariant.0),
      rw (c.in_ok-emit_block.ensures, c.count_of-k.ensures.value)
          (made_more (blocks_from l p k j) blocks j _ _ _ lt c.index-blocks-j.is (rw next refl) c.loop-j.invariant.1),
    )

pub returns : goal.returns
returns c =
    all_made (blocks_from (linking_of c.args.linkage.now) (planning_of c.args.plan.now) c.loop-j.k c.loop-j.j) c.args.blocks.now
    c.loop-j.j c.loop-j-test.false refl c.loop-j.invariant.1
