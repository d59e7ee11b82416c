use Rattle.std.proofs.Common.{◌≡◌, length, flat_map, take}
use Rattle.mblock.specs.PlainOrders.{padded_inst}
use Rattle.list_scheduler.proofs.filled.plain_length.Given as goal

abbrev pub invariant-loop-inst : goal.invariant-loop-inst
invariant-loop-inst l = l.length ≡ length (flat_map padded_inst (take l.inst-index l.inst-items))
