use Rattle.std.proofs.Common.{◌≡◌, ◌++◌, ◌*◌, ◌≤◌, drop}
use Rattle.mips_asm.specs.Emitted.{places_from}
use Rattle.mips_asm.proofs.places.places.Given as goal

abbrev pub invariant-loop-order : goal.invariant-loop-order
invariant-loop-order l = (l.places.items ++ places_from l.here (drop l.order-index l.orders) ≡ places_from 0 l.orders) × (l.here ≤ 2052 * l.order-index)
