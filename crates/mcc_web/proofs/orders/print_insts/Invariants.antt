use Rattle.std.proofs.Common.{take}
use Rattle.std.specs.Io.KnownBytes.{Appends}
use Rattle.mcc_web.specs.Orders.{insts_text}
use Rattle.mcc_web.proofs.orders.print_insts.Given as goal

abbrev pub invariant-loop-inst : goal.invariant-loop-inst
invariant-loop-inst g l =
    Appends (g.W.Write.contents l.fn.out) (g.W.Write.contents l.out) (insts_text (take l.inst-index l.insts))
