use Rattle.std.proofs.Common.{arith}
use Rattle.mips_select.proofs.numbers.push_numbers.Goals as goal

pub number_blocks-requires : goal.number_blocks-requires
number_blocks-requires c = rw (c.lead_in.ensures.value, c.requires.named, c.as_slice.ensures.value) (omega (arith, c.requires.number))
