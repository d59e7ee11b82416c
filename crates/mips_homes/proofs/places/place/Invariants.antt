use Rattle.mips_homes.specs.Places.{IsPlacedFor}
use Rattle.mips_homes.proofs.Framing.{FramedSoFar}
use Rattle.mips_homes.proofs.places.place.Given as goal

abbrev pub invariant-loop-func : goal.invariant-loop-func
invariant-loop-func l = FramedSoFar IsPlacedFor l.rtl.functions l.frames.items l.func-index
