use Rattle.mips_select.proofs.numbering.block_numbers.Goals as goal

pub returns-clause-numbers : goal.returns-clause-numbers
returns-clause-numbers c = rw (c.in_ok-found.ensures, c.as_slice-2.ensures.value, c.in_ok-numbers.ensures)
    (rw (c.as_slice.ensures.value, c.in_ok-pieces.ensures.numbers, c.as_slice-blocks.ensures.value))
