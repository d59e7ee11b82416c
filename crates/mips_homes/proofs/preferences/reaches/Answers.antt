use Rattle.std.proofs.Common.{ap, arith}
use Rattle.std.proofs.lemmas.List.{at_drop_more, at_drop_all}
use Rattle.rtl.specs.declared.block.RBlock.{RBlock}
use Rattle.mips_homes.specs.Preferences.{exit_reach, blocks_reach}
use Rattle.mips_homes.proofs.preferences.reaches.Goals as goal

pub loop-block-preserved : goal.loop-block-preserved
loop-block-preserved c = λ y.
    let bs = c.args.blocks.now in
    let i = c.loop-block.block-index in
    let split = at_drop_more (λ bs. blocks_reach bs y) bs i c.block-item.result c.loop-block-test.true in
    let here = ap (λ (b : RBlock). exit_reach b.exit y) c.block-item.is in
    let raised = c.in_ok-raise_at.ensures y in
    let before = c.loop-block.invariant y in
    omega (arith, split, here, raised, before)

pub returns : goal.returns
returns c = λ x.
    let none = at_drop_all (λ bs. blocks_reach bs x) c.args.blocks.now c.loop-block.block-index c.loop-block-test.false in
    omega (arith, none, c.loop-block.invariant x)
