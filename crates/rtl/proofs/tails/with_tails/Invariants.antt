use Rattle.std.proofs.Common.{◌≡◌, ◌++◌, List, length}
use Rattle.std.specs.Prelude.{reverse}
use Rattle.rtl.specs.declared.block.RBlock.{RBlock}
use Rattle.rtl.specs.Tails.{AreTailed}
use Rattle.rtl.proofs.tails.with_tails.Given as goal

abbrev pub invariant-loop-block : goal.invariant-loop-block
invariant-loop-block l = (rest : List RBlock) × (l.fn.blocks.items ≡ l.blocks.items ++ rest) × AreTailed l.blocks.items rest (reverse l.made.items)

abbrev pub decreases-loop-block : goal.decreases-loop-block
decreases-loop-block l = length l.blocks.items
