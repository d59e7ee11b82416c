use Rattle.std.proofs.Common.{◌≤◌, take}
use Rattle.std.specs.Prelude.{All}
use Rattle.c_typed.specs.Shape.{functions_of}
use Rattle.rtl.specs.declared.limits.TheConstants.{MAX_REGISTERS}
use Rattle.rtl_lower.specs.Coded.{AreCodesOf}
use Rattle.rtl_lower.specs.Sizes.{function_registers}
use Rattle.rtl_lower.proofs.program.functions.Given as goal

abbrev pub invariant-loop-f : goal.invariant-loop-f
invariant-loop-f l = AreCodesOf (functions_of (take l.f-index l.all)) l.lowered.items
    × All (λ f. function_registers f ≤ MAX_REGISTERS) (functions_of (take l.f-index l.all))
