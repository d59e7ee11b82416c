use Rattle.std.proofs.Common.{◌≡◌, length, take}
use Rattle.example_terms.specs.Standing.{AreAt}
use Rattle.example_terms.proofs.symbolic.values_at.Given as goal

abbrev pub invariant-loop-i : goal.invariant-loop-i
invariant-loop-i l = AreAt l.values (take l.i l.places) l.found.items × (length l.found.items ≡ l.i)
