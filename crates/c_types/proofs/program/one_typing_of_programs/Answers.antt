use Rattle.c_types.proofs.OncePrograms.{once-program}
use Rattle.c_types.proofs.program.one_typing_of_programs.Goals as goal

pub returns : goal.returns
returns c = once-program
