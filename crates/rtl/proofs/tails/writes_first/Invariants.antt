use Rattle.std.proofs.Common.{◌≡◌, drop}
use Rattle.rtl.specs.Tails.{writes_first}
use Rattle.rtl.proofs.tails.writes_first.Given as goal

abbrev pub invariant-loop-inst : goal.invariant-loop-inst
invariant-loop-inst l = writes_first (drop l.inst-index l.insts) l.d ≡ writes_first l.insts l.d
