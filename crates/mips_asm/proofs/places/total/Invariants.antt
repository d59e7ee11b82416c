use Rattle.std.proofs.Common.{◌≡◌, ◌*◌, ◌≤◌}
use Rattle.mips_asm.specs.Layout.{place}
use Rattle.mips_asm.proofs.places.total.Given as goal

abbrev pub invariant-loop-order : goal.invariant-loop-order
invariant-loop-order l = (l.words ≡ place l.orders l.order-index) × (l.words ≤ 2052 * l.order-index)
