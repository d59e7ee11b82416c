use Rattle.std.proofs.Common.{refl, sym, arith}
use Rattle.mips_asm.specs.Emitted.{start_of}
use Rattle.mips_asm.proofs.Starts.{place_step, words_on, fit_on}
use Rattle.mips_asm.proofs.Within.{place_none, place_room}
use Rattle.std.proofs.lemmas.Option.{slice_get_read}
use Rattle.mips_asm.proofs.emit.put_orders.Goals as goal

pub loop-order-init : goal.loop-order-init
loop-order-init c = (refl, λ h. h, sym (place_none c.args.orders.now))

pub put_order-requires-clause-here : goal.put_order-requires-clause-here
put_order-requires-clause-here c =
    let there = slice_get_read c.args.orders.now _ c.loop-order.order-index _ refl c.loop-order-test.true c.order-item.is in
    omega (arith, place_room c.args.orders.now c.loop-order.order-index c.order-item.result there, c.requires.room, c.loop-order.invariant.2)

pub put_order-requires-clause-near : goal.put_order-requires-clause-near
put_order-requires-clause-near c =
    rw c.loop-order.invariant.2
    (c.requires.near c.loop-order.order-index c.order-item.result (slice_get_read _ _ _ _ refl c.loop-order-test.true c.order-item.is))

pub overflow_add-here : goal.overflow_add-here
overflow_add-here c =
    let there = slice_get_read c.args.orders.now _ c.loop-order.order-index _ refl c.loop-order-test.true c.order-item.is in
    omega (arith, place_room c.args.orders.now c.loop-order.order-index c.order-item.result there, c.requires.room, c.loop-order.invariant.2, c.size-here.ensures.value)

pub loop-order-preserved : goal.loop-order-preserved
loop-order-preserved c =
    let os = c.args.orders.now in
    let start = start_of c.args.places.now in
    let here = c.loop-order.here in
    let k = c.loop-order.order-index in
    let o = c.order-item.result in
    let lt = c.loop-order-test.true in
    let is = c.order-item.is in
    let words = words_on start os here k o lt is c.loop-order.code.items c.in_ok-put_order.ensures.word c.loop-order.invariant.0 in
    let fit = fit_on start os here k o lt is c.in_ok-put_order.ensures.fit c.loop-order.invariant.1 in
    rw c.size-here.ensures.value (words, fit, omega (arith, place_step os k o lt is, c.loop-order.invariant.2))
