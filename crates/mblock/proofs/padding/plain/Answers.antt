use Rattle.std.proofs.Common.{length, length-take, take, ap, ◌∙◌, arith}
use Rattle.std.specs.Prelude.{is_some}
use Rattle.mblock.specs.Slots.{is_slotted}
use Rattle.mblock.proofs.PlainOrders.{padded_short, slot_fits, insts_more, order_made}
use Rattle.mblock.proofs.padding.plain.Goals as goal

pub loop-inst-preserved : goal.loop-inst-preserved
loop-inst-preserved c = insts_more c.insts-inst-items.result.now c.loop-inst.insts.items c.push_padded.new.insts.items c.loop-inst.inst-index
    c.inst-item.result c.loop-inst-test.true c.inst-item.is c.loop-inst.invariant c.in_ok-push_padded.ensures

pub of-requires-clause-few : goal.of-requires-clause-few
of-requires-clause-few c =
    let insts = c.insts-inst-items.result.now in
    omega (
      arith,
      ap length c.loop-inst.invariant,
      padded_short
          (take c.loop-inst.inst-index insts),
      length-take c.loop-inst.inst-index insts,
      ap length c.insts-inst-items.ensures.value,
      c.insts-inst-items.ensures.limit,
    )

pub of-requires-clause-fits : goal.of-requires-clause-fits
of-requires-clause-fits c = ap is_some c.plain_slot-slot.ensures ∙ slot_fits (is_slotted c.exit-exit.result)

pub returns-clause-order : goal.returns-clause-order
returns-clause-order c = order_made c.args.block.now c.insts-inst-items.result.now c.loop-inst.insts.items c.loop-inst.inst-index c.exit-exit.result
    c.plain_slot-slot.result c.of.result c.loop-inst-test.false c.insts-inst-items.ensures.value c.loop-inst.invariant c.exit-exit.ensures
    c.plain_slot-slot.ensures c.of.ensures
