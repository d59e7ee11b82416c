use Rattle.std.proofs.Common.{◌≡◌, ◌+◌, ◌++◌, drop, length}
use Rattle.mips_select.specs.Plans.{linking_of}
use Rattle.mips_select.specs.Whole.{functions_size, functions_blocks}
use Rattle.mips_select.proofs.functions.emit_functions.Given as goal

abbrev pub invariant-loop-i : goal.invariant-loop-i
invariant-loop-i l =
    (length l.emitter.blocks.items + functions_size (drop l.i l.functions) ≡ 2 + functions_size l.functions)
    × (l.emitter.blocks.items ++ functions_blocks (linking_of l.linkage) (length l.emitter.blocks.items) (drop l.i l.functions) (drop l.i l.frames)
    ≡ l.fn.emitter.blocks.items ++ functions_blocks (linking_of l.linkage) 2 l.functions l.frames)
