use Rattle.mips_homes.proofs.Placing.{one_more_first}
use Rattle.mips_homes.proofs.frames.first_registers.Goals as goal

pub loop-j-preserved : goal.loop-j-preserved
loop-j-preserved c = one_more_first c.loop-j.j c.loop-j.saved.items _ c.in_ok-push.ensures.items c.loop-j.invariant
