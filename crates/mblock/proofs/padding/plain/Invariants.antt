use Rattle.std.proofs.Common.{◌≡◌, flat_map, take}
use Rattle.mblock.specs.PlainOrders.{padded_inst}
use Rattle.mblock.proofs.padding.plain.Given as goal

abbrev pub invariant-loop-inst : goal.invariant-loop-inst
invariant-loop-inst l = l.insts.items ≡ flat_map padded_inst (take l.inst-index l.inst-items)
