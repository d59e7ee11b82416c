use Rattle.std.proofs.Common.{rules}
use Rattle.c_statements.specs.Types.{missing_typed, present_typed}
use Rattle.c_statements.proofs.Joins.{answers-err, answers-ok}
use Rattle.c_statements.proofs.statement.returned_value.Goals as goal

pub returns-in_ok-term-in-Some : goal.returns-in_ok-term-in-Some
returns-in_ok-term-in-Some c = answers-ok (rw c.in-Some.is (present_typed c.in_ok-term-in-Some.ensures.ok)) (search rules)

pub returns-in-None : goal.returns-in-None
returns-in-None c = answers-ok (rw c.in-None.is missing_typed) (search rules)

pub returns-in_err-term-in-Some : goal.returns-in_err-term-in-Some
returns-in_err-term-in-Some c = answers-err c.in_err-term-in-Some.field-0.0 (search rules) (rw c.in-Some.is c.in_err-term-in-Some.ensures.err)
