use Rattle.std.proofs.Common.{rules}
use Rattle.c_statements.specs.Types.{no_test, some_test}
use Rattle.c_statements.proofs.Joins.{answers-as, answers-ok}
use Rattle.c_statements.proofs.simple.test.Goals as goal

pub returns-in-None : goal.returns-in-None
returns-in-None c = answers-ok (rw c.in-None.is no_test) (search rules)

pub returns-in-Some : goal.returns-in-Some
returns-in-Some c = rw c.in-Some.is (answers-as (λ t h. some_test h) c.expression.ensures)
