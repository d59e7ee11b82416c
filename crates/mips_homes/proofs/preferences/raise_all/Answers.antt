use Rattle.mips_homes.proofs.Preferring.{raise_step}
use Rattle.mips_homes.proofs.preferences.raise_all.Goals as goal

pub loop-i-preserved : goal.loop-i-preserved
loop-i-preserved c = raise_step c.args.xs.now c.loop-i.i _ _ _ c.loop-i-test.true c.in_ok-raise.ensures c.loop-i.invariant
