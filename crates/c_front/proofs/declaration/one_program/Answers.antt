use Rattle.c_front.proofs.Theorems.{one-program}
use Rattle.c_front.proofs.declaration.one_program.Goals as goal

pub returns : goal.returns
returns c = λ ts p q d e. one-program d e
