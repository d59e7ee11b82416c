use Rattle.std.proofs.Common.{◌≡◌, ◌+◌, ◌++◌, length}
use Rattle.std.specs.Prelude.{slice_index}
use Rattle.mips_select.specs.Split.{total, split_from}
use Rattle.mips_select.proofs.pieces.pieces_of.Given as goal

abbrev pub invariant-loop-block : goal.invariant-loop-block
invariant-loop-block l = record {
  counts : length l.out.items + total 512 l.block-iterator.rest.items ≡ total 512 l.fn.long.items;
  made : l.out.items ++ split_from 512 (λ n. slice_index l.numbers n) (length l.out.items) l.block-iterator.rest.items ≡ split_from 512
      (λ n. slice_index l.numbers n) 0 l.fn.long.items;
}
