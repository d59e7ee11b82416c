use Rattle.std.proofs.Common.{refl}
use Rattle.mips_homes.proofs.Seeing.{all_step, all_end}
use Rattle.mips_homes.proofs.locals.see_all.Goals as goal

pub loop-x-preserved : goal.loop-x-preserved
loop-x-preserved c = all_step _ c.args.xs.now c.loop-x.x-index _ 0 _ _ _ c.loop-x-test.true refl c.in_ok-see_read.ensures c.loop-x.invariant

pub returns : goal.returns
returns c = all_end _ c.args.xs.now c.loop-x.x-index _ _ c.loop-x-test.false c.loop-x.invariant
