use Rattle.c_types.proofs.OncePrograms.{once-spelled}
use Rattle.c_types.proofs.program.one_typed_program.Goals as goal

pub returns : goal.returns
returns c = once-spelled
