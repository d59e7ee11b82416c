use Rattle.std.proofs.Common.{◌≡◌, drop}
use Rattle.c_typed.specs.Shape.{statements_of}
use Rattle.rtl_lower.specs.Sizes.{any_continues}
use Rattle.rtl_lower.proofs.shape.+may_continue.Given as goal

abbrev pub invariant-loop-one : goal.invariant-loop-one
invariant-loop-one l = any_continues (statements_of (drop l.one-index l.one-items)) ≡ any_continues (statements_of l.one-items)
