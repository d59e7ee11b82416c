use Rattle.std.proofs.Common.{◌≡◌, ◌≤◌, ◌+◌, drop}
use Rattle.mips_select.specs.Heads.{heads_in}
use Rattle.mips_select.specs.Whole.{size_of_blocks}
use Rattle.mips_select.proofs.numbers.count_blocks.Given as goal

abbrev pub invariant-loop-block : goal.invariant-loop-block
invariant-loop-block l =
    (l.n ≤ l.block-index + l.block-index)
    × (l.n + size_of_blocks (heads_in l.table) (drop l.block-index l.blocks) ≡ size_of_blocks (heads_in l.table) l.blocks)
