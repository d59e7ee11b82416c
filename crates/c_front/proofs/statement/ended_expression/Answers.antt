use Rattle.c_front.specs.Grammar.{maybe_expression, expression_none, expression_some}
use Rattle.c_front.specs.Reading.{read_nothing}
use Rattle.c_front.proofs.Ends.{failed}
use Rattle.c_front.proofs.Steps.{followed, mark, whole, wrapped, inside-more}
use Rattle.c_front.proofs.Choices.{otherwise}
use Rattle.c_front.proofs.statement.ended_expression.Goals as goal

pub returns-in-Some-clause-ok : goal.returns-in-Some-clause-ok
returns-in-Some-clause-ok c = let e = c.in-Some.ensures.some in followed (whole expression_none (rw e) read_nothing) (mark e)

pub returns-in_err-inner-clause-err : goal.returns-in_err-inner-clause-err
returns-in_err-inner-clause-err c = failed _ c.from_residual.ensures.1
    (inside-more expression_some (otherwise maybe_expression _ c.in_default.ensures.none) (λ z. z) c.in_err-inner.ensures.err)

pub returns-clause-ok : goal.returns-clause-ok
returns-clause-ok c = wrapped expression_some (otherwise maybe_expression _ c.in_default.ensures.none) c.in_ok-inner.ensures.ok
