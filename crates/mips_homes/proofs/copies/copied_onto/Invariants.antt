use Rattle.std.proofs.Common.{◌≡◌, ◌≤◌, ◌++◌, drop}
use Rattle.mips_homes.specs.Copies.{copied_onto}
use Rattle.mips_homes.proofs.copies.copied_onto.Given as goal

abbrev pub invariant-loop-home : goal.invariant-loop-home
invariant-loop-home l = (l.used ≤ l.home-index) × (l.out.items ++ copied_onto (drop l.used l.free) (drop l.home-index l.homes) ≡ copied_onto l.free l.homes)
