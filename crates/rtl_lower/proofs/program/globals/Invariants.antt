use Rattle.std.proofs.Common.{take}
use Rattle.rtl_lower.specs.Coded.{AreGlobalsOf}
use Rattle.rtl_lower.proofs.program.globals.Given as goal

abbrev pub invariant-loop-g : goal.invariant-loop-g
invariant-loop-g l = AreGlobalsOf (take l.g-index l.all) l.lowered.items
