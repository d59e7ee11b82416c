use Rattle.std.proofs.Common.{drop}
use Rattle.mips_homes.proofs.Seeing.{AreSeenTo}
use Rattle.mips_homes.proofs.locals.sights.Given as goal

abbrev pub invariant-loop-i : goal.invariant-loop-i
invariant-loop-i l = AreSeenTo l.i l.sights.items (drop l.i l.blocks) l.blocks
