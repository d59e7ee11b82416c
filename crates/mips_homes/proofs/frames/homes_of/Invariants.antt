use Rattle.mips_homes.specs.Best.{AreHomesOf}
use Rattle.mips_homes.proofs.frames.homes_of.Given as goal

abbrev pub invariant-loop-x : goal.invariant-loop-x
invariant-loop-x l = AreHomesOf l.best l.x l.homes.items l.slots
