use Rattle.std.proofs.Common.{◌≡◌, drop}
use Rattle.rtl.specs.Tails.{constant_of}
use Rattle.rtl.proofs.tails.spare_constant.Given as goal

abbrev pub invariant-loop-inst : goal.invariant-loop-inst
invariant-loop-inst l = constant_of l.insts (drop l.inst-index l.insts) ≡ constant_of l.insts l.insts
