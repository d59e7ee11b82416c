use Rattle.std.proofs.Common.{sym, arith}
use Rattle.mips_asm.proofs.Starts.{place_step}
use Rattle.mips_asm.proofs.Within.{place_none}
use Rattle.mips_asm.proofs.places.total.Goals as goal

pub loop-order-init : goal.loop-order-init
loop-order-init c = (sym (place_none c.args.orders.now), omega arith)

pub loop-order-preserved : goal.loop-order-preserved
loop-order-preserved c =
    let step = place_step c.args.orders.now c.loop-order.order-index c.order-item.result c.loop-order-test.true c.order-item.is in
    (omega arith, omega arith)
