use Rattle.std.proofs.Common.{◌≡◌, ◌++◌}
use Rattle.mips_emit.specs.Locations.{locations}
use Rattle.mips_select.specs.Code.{parameters_code}
use Rattle.mips_select.proofs.prologue.emit_parameters.Given as goal

abbrev pub invariant-loop-x : goal.invariant-loop-x
invariant-loop-x l = l.code.items ≡ l.fn.code.items ++ parameters_code (locations l.frame) 4 0 l.x
