use Rattle.std.proofs.Common.{◌≡◌, take}
use Rattle.rtl.specs.Tails.{operations}
use Rattle.rtl.proofs.tails.operations.Given as goal

abbrev pub invariant-loop-inst : goal.invariant-loop-inst
invariant-loop-inst l = l.count ≡ operations (take l.inst-index l.insts)
