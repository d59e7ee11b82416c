use Rattle.c_statements.proofs.Once.{once}
use Rattle.c_statements.proofs.expression.one_typing.Goals as goal

pub returns : goal.returns
returns c = λ scope e t u a b. once a b
