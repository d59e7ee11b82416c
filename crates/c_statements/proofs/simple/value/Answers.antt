use Rattle.std.proofs.Common.{rules}
use Rattle.c_statements.specs.Types.{plain_typed, called_typed}
use Rattle.c_statements.proofs.Joins.{answers-as, answers-err, answers-ok}
use Rattle.c_statements.proofs.simple.value.Goals as goal

pub returns-in_ok-term-in-Plain : goal.returns-in_ok-term-in-Plain
returns-in_ok-term-in-Plain c = answers-ok (rw c.in-Plain.is (plain_typed c.in_ok-term-in-Plain.ensures.ok)) (search rules)

pub returns-in-Called : goal.returns-in-Called
returns-in-Called c = rw c.in-Called.is (answers-as (λ s h. called_typed h) c.call_to.ensures)

pub returns-in_err-term-in-Plain : goal.returns-in_err-term-in-Plain
returns-in_err-term-in-Plain c = answers-err c.in_err-term-in-Plain.field-0.0 (search rules) (rw c.in-Plain.is c.in_err-term-in-Plain.ensures.err)
