use Rattle.c_statements.proofs.OnceStatements.{once-statement, once-items}
use Rattle.c_statements.proofs.statement.one_typing_of_statements.Goals as goal

pub returns : goal.returns
returns c = record { statement = λ text sc s t u a b. once-statement a b; items = λ text sc all t u a b. once-items a b }
