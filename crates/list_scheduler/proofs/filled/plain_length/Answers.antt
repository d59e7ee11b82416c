use Rattle.std.proofs.Common.{length, length-append, length-take, flat_map, take, refl, ap, arith, ◌++◌}
use Rattle.std.proofs.lemmas.List.{take_all}
use Rattle.mblock.specs.PlainOrders.{padded_inst}
use Rattle.mblock.proofs.PlainOrders.{insts_more, padded_short}
use Rattle.list_scheduler.proofs.filled.plain_length.Goals as goal

pub overflow_add-length : goal.overflow_add-length
overflow_add-length c =
    let insts = c.insts-inst-items.result.now in
    let so_far = take c.loop-inst.inst-index insts in
    omega (
      arith,
      c.loop-inst.invariant,
      padded_short so_far,
      length-take c.loop-inst.inst-index insts,
      ap length c.insts-inst-items.ensures.value,
      c.insts-inst-items.ensures.limit,
      c.padded_length-length.ensures.few,
    )

pub loop-inst-preserved : goal.loop-inst-preserved
loop-inst-preserved c =
    let insts = c.insts-inst-items.result.now in
    let before = flat_map padded_inst (take c.loop-inst.inst-index insts) in
    let more = insts_more insts before _ c.loop-inst.inst-index c.inst-item.result c.loop-inst-test.true c.inst-item.is refl refl in
    omega (arith, c.loop-inst.invariant, c.padded_length-length.ensures.value, ap length more, length-append before (padded_inst c.inst-item.result))

pub returns : goal.returns
returns c =
    let insts = c.insts-inst-items.result.now in
    let all = take_all c.loop-inst.inst-index insts c.loop-inst-test.false in
    omega (arith, c.loop-inst.invariant, ap (λ l. length (flat_map padded_inst l)) all, ap (λ l. length (flat_map padded_inst l)) c.insts-inst-items.ensures.value)
