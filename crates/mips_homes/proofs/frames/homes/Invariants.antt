use Rattle.mips_homes.specs.Choice.{IsChoice}
use Rattle.mips_homes.proofs.Framing.{FramedSoFar}
use Rattle.mips_homes.proofs.frames.homes.Given as goal

abbrev pub invariant-loop-func : goal.invariant-loop-func
invariant-loop-func l = FramedSoFar IsChoice l.rtl.functions l.frames.items l.func-index
