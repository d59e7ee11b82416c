use Rattle.std.proofs.Common.{ap, arith}
use Rattle.std.proofs.lemmas.Result.{err_from_is_err_and}
use Rattle.mips_select.specs.Whole.{functions_size}
use Rattle.mips_select.proofs.Selecting.{function_blocks_few, many_pieces}
use Rattle.mips_select.proofs.program.long_unit.Goals as goal

pub number_functions-requires : goal.number_functions-requires
number_functions-requires c = λ g func there. function_blocks_few _ _ c.functions.ensures.sound c.functions.ensures.value g func there

pub returns-in_err-numbers-clause-limit : goal.returns-in_err-numbers-clause-limit
returns-in_err-numbers-clause-limit c =
    let p = err_from_is_err_and c.from_residual.result c.from_residual.ensures.1 in
    let many = many_pieces c.args.homed.now c.requires.places in
    rw (p.1, p.2) (λ e. omega (arith, many, ap functions_size c.functions.ensures.value, c.in_err-numbers.ensures.limit e))
