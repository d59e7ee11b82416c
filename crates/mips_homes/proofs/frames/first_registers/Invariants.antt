use Rattle.mips_homes.specs.Best.{AreFirst}
use Rattle.mips_homes.proofs.frames.first_registers.Given as goal

abbrev pub invariant-loop-j : goal.invariant-loop-j
invariant-loop-j l = AreFirst l.j l.saved.items
