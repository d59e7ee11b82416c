use Rattle.c_types.proofs.FitsPrograms.{each-typed-program-is-well-formed}
use Rattle.c_types.proofs.program.each_typed_program_is_well_formed.Goals as goal

pub returns : goal.returns
returns c = each-typed-program-is-well-formed
