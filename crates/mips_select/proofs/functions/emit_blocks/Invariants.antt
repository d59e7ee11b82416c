use Rattle.std.proofs.Common.{◌≡◌, ◌≤◌, ◌+◌, ◌++◌, drop}
use Rattle.mblock.specs.declared.limits.TheConstants.{UNIT_BLOCKS}
use Rattle.mips_select.specs.Heads.{heads_in}
use Rattle.mips_select.specs.Plans.{linking_of, planning_of}
use Rattle.mips_select.specs.Whole.{size_of_blocks, blocks_from}
use Rattle.mips_select.proofs.functions.emit_blocks.Given as goal

abbrev pub invariant-loop-j : goal.invariant-loop-j
invariant-loop-j l =
    (l.k + size_of_blocks (heads_in l.plan.table.now) (drop l.j l.blocks) ≤ UNIT_BLOCKS)
    × (l.emitter.blocks.items ++ blocks_from (linking_of l.linkage) (planning_of l.plan) l.k l.j (drop l.j l.blocks)
    ≡ l.fn.emitter.blocks.items ++ blocks_from (linking_of l.linkage) (planning_of l.plan) l.first 0 l.blocks)
