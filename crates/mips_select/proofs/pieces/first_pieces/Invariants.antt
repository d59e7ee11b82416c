use Rattle.std.proofs.Common.{◌≡◌, ◌≤◌, ◌+◌, ◌++◌, drop}
use Rattle.mips_select.specs.Split.{total, firsts}
use Rattle.mips_select.proofs.pieces.first_pieces.Given as goal

abbrev pub invariant-loop-block : goal.invariant-loop-block
invariant-loop-block l = record {
  few : l.k ≤ 1048576;
  counts : l.k + total 512 (drop l.block-index l.long) ≡ total 512 l.long;
  numbers : l.numbers.items ++ firsts 512 l.k (drop l.block-index l.long) ≡ firsts 512 0 l.long;
}
