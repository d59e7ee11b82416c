use Rattle.std.proofs.Common.{arith}
use Rattle.mips_select.specs.Split.{first_piece_of}
use Rattle.mips_select.proofs.Places.{total_above, length-split_from}
use Rattle.mips_select.proofs.Well.{piece_of, pieces_linked, pieces_owned}
use Rattle.mips_select.proofs.laws.each_split_unit_is_well.Goals as goal

pub returns : goal.returns
returns c = λ blocks owner linked owners. record {
  short = λ i b there. (piece_of 512 (omega arith) blocks i b there).1.short;
  linked = pieces_linked 512 (omega arith) blocks linked;
  owners = pieces_owned 512 (omega arith) blocks owner owners;
  some = omega (arith, total_above 512 blocks, length-split_from 512 (first_piece_of 512 blocks) 0 blocks);
}
