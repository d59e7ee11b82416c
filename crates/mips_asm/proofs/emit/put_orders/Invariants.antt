use Rattle.std.proofs.Common.{◌≡◌, ◌++◌, map, drop}
use Rattle.mips_code.specs.Words.{inst_word}
use Rattle.mips_asm.specs.Layout.{insts_of, place}
use Rattle.mips_asm.specs.Emitted.{Fit, start_of}
use Rattle.mips_asm.proofs.emit.put_orders.Given as goal

abbrev pub invariant-loop-order : goal.invariant-loop-order
invariant-loop-order l =
    (l.code.items ++ map inst_word (insts_of (start_of l.places) l.here (drop l.order-index l.orders)) ≡ l.fn.code.items ++ map inst_word
    (insts_of (start_of l.places) 0 l.orders))
    × (Fit (insts_of (start_of l.places) l.here (drop l.order-index l.orders)) → Fit (insts_of (start_of l.places) 0 l.orders))
    × (l.here ≡ place l.orders l.order-index)
