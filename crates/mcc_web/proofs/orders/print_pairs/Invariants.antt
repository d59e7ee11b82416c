use Rattle.std.proofs.Common.{take}
use Rattle.std.specs.Io.KnownBytes.{Appends}
use Rattle.mcc_web.specs.Orders.{pairs_text}
use Rattle.mcc_web.proofs.orders.print_pairs.Given as goal

abbrev pub invariant-loop-number : goal.invariant-loop-number
invariant-loop-number g l = Appends (g.W.Write.contents l.fn.out) (g.W.Write.contents l.out)
    (pairs_text 0 (take l.number l.owners) (take l.number l.blocks) (take l.number l.orders))
