use Rattle.std.proofs.Common.{◌≡◌, ◌≤◌, take}
use Rattle.std.specs.Prelude.{sum_by}
use Rattle.rtl.specs.declared.limits.TheConstants.{MAX_BLOCKS}
use Rattle.rtl.specs.Programs.{block_count}
use Rattle.rtl.proofs.program.blocks_fit.Given as goal

abbrev pub invariant-loop-function : goal.invariant-loop-function
invariant-loop-function l = record { so_far : l.total ≡ sum_by block_count (take l.function-index l.functions); fits : l.total ≤ MAX_BLOCKS }
