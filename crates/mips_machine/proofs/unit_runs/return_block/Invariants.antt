use Rattle.std.proofs.Common.{◌≡◌, drop}
use Rattle.mblock.specs.UnitRuns.{return_block_of}
use Rattle.mips_machine.specs.UnitViews.{link_of}
use Rattle.mips_machine.proofs.unit_runs.return_block.Given as goal

-- what is left of the blocks gives the whole
abbrev pub invariant-loop-k : goal.invariant-loop-k
invariant-loop-k l = (return_block_of link_of l.word l.k (drop l.k l.blocks) ≡ return_block_of link_of l.word 0 l.blocks)
