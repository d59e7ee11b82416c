use Rattle.std.proofs.Common.{ap, arith}
use Rattle.mblock.specs.declared.limits.TheConstants.{BLOCK_INSTS}
use Rattle.mips_select.specs.Split.{first_piece_of, total}
use Rattle.mips_select.specs.Whole.{functions_size, program_blocks}
use Rattle.mips_select.proofs.Places.{length-split_from}
use Rattle.mips_select.proofs.Selecting.{function_blocks_few, told_beyond}
use Rattle.mips_select.proofs.numbering.select_numbered.Goals as goal

pub block_numbers-requires-clause-small : goal.block_numbers-requires-clause-small
block_numbers-requires-clause-small c = λ g func there. function_blocks_few _ _ c.functions.ensures.sound c.functions.ensures.value g func there

pub block_numbers-requires-clause-number : goal.block_numbers-requires-clause-number
block_numbers-requires-clause-number c = omega (arith, ap functions_size c.functions.ensures.value, c.in_ok-long.ensures.few)

pub returns-in_err-long-clause-limit : goal.returns-in_err-long-clause-limit
returns-in_err-long-clause-limit c = told_beyond _ _ c.from_residual-in_err-long.ensures.1 c.in_ok-homed.ensures.lent c.in_ok-homed.ensures.places
    c.in_err-long.ensures.limit

pub returns-in_err-unit-clause-limit : goal.returns-in_err-unit-clause-limit
returns-in_err-unit-clause-limit c = told_beyond _ _ c.from_residual-in_err-unit.ensures.1 c.in_ok-homed.ensures.lent c.in_ok-homed.ensures.places
    c.in_err-unit.ensures.limit

pub returns-in_err-numbers-clause-limit : goal.returns-in_err-numbers-clause-limit
returns-in_err-numbers-clause-limit c = told_beyond _ _ c.from_residual-in_err-numbers.ensures.1 c.in_ok-homed.ensures.lent c.in_ok-homed.ensures.places
    (λ e. let whole = program_blocks c.in_ok-homed.homed in
    let many = length-split_from BLOCK_INSTS (first_piece_of BLOCK_INSTS whole) 0 whole in
    omega (arith, many, ap (total BLOCK_INSTS) c.in_ok-long.ensures.blocks, c.in_err-numbers.ensures.limit e))

pub returns-clause-numbered : goal.returns-clause-numbered
returns-clause-numbered c = record {
  selected = record {
    homed = c.in_ok-homed.homed;
    lent = c.in_ok-homed.ensures.lent;
    places = c.in_ok-homed.ensures.places;
    unit = c.in_ok-unit.ensures.unit;
  };
  begin = rw (c.in_ok-long.ensures.blocks, c.functions.ensures.value) at c.in_ok-numbers.ensures.numbers;
}
