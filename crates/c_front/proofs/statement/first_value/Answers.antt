use Rattle.std.proofs.Common.{refl}
use Rattle.c_front.specs.Grammar.{declared, is_the, declared_none, declared_some}
use Rattle.c_front.specs.Reading.{read_nothing}
use Rattle.c_front.proofs.Ends.{failed}
use Rattle.c_front.proofs.Steps.{whole, taken, begun}
use Rattle.c_front.proofs.Choices.{otherwise}
use Rattle.c_front.proofs.statement.first_value.Goals as goal

pub returns-in_err-given-in-Some-clause-err : goal.returns-in_err-given-in-Some-clause-err
returns-in_err-given-in-Some-clause-err c =
    failed _ c.from_residual.ensures.1 (begun declared_some is_the c.in-Some.ensures.some refl c.in_err-given-in-Some.ensures.err)

pub returns-in-None-clause-ok : goal.returns-in-None-clause-ok
returns-in-None-clause-ok c = whole declared_none (otherwise declared _ c.in-None.ensures.none) read_nothing

pub returns-in_ok-given-in-Some-clause-ok : goal.returns-in_ok-given-in-Some-clause-ok
returns-in_ok-given-in-Some-clause-ok c = taken declared_some is_the c.in-Some.ensures.some refl c.in_ok-given-in-Some.ensures.ok
