use Rattle.std.proofs.Common.{refl}
use Rattle.c_front.specs.Grammar.{initial, is_the, is_constant, initial_plain, initial_negative}
use Rattle.c_front.proofs.Ends.{failed}
use Rattle.c_front.proofs.Steps.{one, whole, taken, inside, begun, constant-missing}
use Rattle.c_front.proofs.Choices.{otherwise}
use Rattle.c_front.proofs.declaration.initial.Goals as goal

pub returns-in_err-found-in-Some-clause-err : goal.returns-in_err-found-in-Some-clause-err
returns-in_err-found-in-Some-clause-err c = failed _ c.from_residual.ensures.1
    (begun initial_negative is_the c.in-Some.ensures.some refl (constant-missing c.in_err-found-in-Some.ensures.err))

pub returns-in_err-found-in-None-clause-err : goal.returns-in_err-found-in-None-clause-err
returns-in_err-found-in-None-clause-err c = failed _ c.from_residual-in_err-found-in-None.ensures.1
    (inside initial_plain (otherwise initial _ c.in-None.ensures.none) (λ z. z) (constant-missing c.in_err-found-in-None.ensures.err))

pub returns-in_ok-found-in-Some-clause-ok : goal.returns-in_ok-found-in-Some-clause-ok
returns-in_ok-found-in-Some-clause-ok c =
    taken initial_negative is_the c.in-Some.ensures.some refl (one is_constant c.in_ok-found-in-Some.ensures.ok)

pub returns-in_ok-found-in-None-clause-ok : goal.returns-in_ok-found-in-None-clause-ok
returns-in_ok-found-in-None-clause-ok c =
    whole initial_plain (otherwise initial _ c.in-None.ensures.none) (one is_constant c.in_ok-found-in-None.ensures.ok)
