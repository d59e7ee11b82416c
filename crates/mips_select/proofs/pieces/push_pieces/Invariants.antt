use Rattle.std.proofs.Common.{◌≡◌, ◌<◌, ◌+◌, ◌-◌, ◌/◌, ◌++◌, length}
use Rattle.mips_select.specs.Split.{pieces}
use Rattle.mips_select.proofs.pieces.push_pieces.Given as goal

abbrev pub invariant-loop-rest : goal.invariant-loop-rest
invariant-loop-rest l = record {
  few : length l.out.items + (length l.rest - 1) / 512 < 1048576;
  made : l.out.items ++ pieces 512 l.exit ((length l.rest - 1) / 512) (length l.out.items) l.rest ≡ l.fn.out.items ++ pieces 512 l.exit
      ((length l.insts - 1) / 512) (length l.fn.out.items) l.insts;
}

abbrev pub decreases-loop-rest : goal.decreases-loop-rest
decreases-loop-rest l = length l.rest
