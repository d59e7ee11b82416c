use Rattle.std.proofs.Common.{◌≡◌, ◌≤◌, ◌+◌, ◌++◌, drop}
use Rattle.mblock.specs.declared.limits.TheConstants.{UNIT_BLOCKS}
use Rattle.mips_select.specs.Heads.{heads_in}
use Rattle.mips_select.specs.Whole.{size_of_blocks, numbers}
use Rattle.mips_select.proofs.numbers.number_blocks.Given as goal

abbrev pub invariant-loop-block : goal.invariant-loop-block
invariant-loop-block l =
    (l.k + size_of_blocks (heads_in l.table) (drop l.block-index l.blocks) ≤ UNIT_BLOCKS)
    × (l.ns.items ++ numbers (heads_in l.table) l.k (drop l.block-index l.blocks) ≡ numbers (heads_in l.table) l.first l.blocks)
