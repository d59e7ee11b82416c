use Rattle.std.proofs.Common.{List, ◌≤◌, ◌+◌, ℕ, length}
use Rattle.block_text.specs.Stages.{stage_parts, Fits}
use Rattle.block_text.specs.declared.stage.Stage.{Stage}
use Rattle.block_text.proofs.Reading.{Reading}
use Rattle.block_text.proofs.reader.read.Given as goal

pub record Kept (text rest : List ℕ) (count : ℕ) (place : Stage) : Type 0 where
  pub reading : Reading text rest count (stage_parts place)
  pub fits : Fits place
  pub small : count + length rest ≤ length text

abbrev pub invariant-loop-rest : goal.invariant-loop-rest
invariant-loop-rest l = Kept l.fn.text l.rest l.count l.place

abbrev pub decreases-loop-rest : goal.decreases-loop-rest
decreases-loop-rest l = length l.rest
