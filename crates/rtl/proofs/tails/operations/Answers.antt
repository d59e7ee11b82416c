use Rattle.std.proofs.Common.{rules}
use Rattle.rtl.proofs.Duplication.{operations_next, operations_so_far, weight_at}
use Rattle.rtl.proofs.tails.operations.Goals as goal

pub overflow_add-count : goal.overflow_add-count
overflow_add-count c =
    let few = operations_so_far c.args.insts.now c.loop-inst.inst-index in
    let one = weight_at c.weight-count.result _ c.weight-count.ensures in
    search rules

pub loop-inst-preserved : goal.loop-inst-preserved
loop-inst-preserved c =
    operations_next c.args.insts.now c.loop-inst.inst-index c.loop-inst.count c.weight-count.result _ c.loop-inst-test.true c.loop-inst.invariant
    c.weight-count.ensures
