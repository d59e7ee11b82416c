use Rattle.mips_select.proofs.DataPlaces.{zeros_step}
use Rattle.mips_select.proofs.globals.push_zeros.Goals as goal

pub loop-i-preserved : goal.loop-i-preserved
loop-i-preserved c = zeros_step c.args.n c.loop-i._i _ c.loop-i-test.true c.in_ok-push.ensures c.loop-i.invariant
