use Rattle.c_front.specs.Grammar.{a_type, is_name}
use Rattle.c_front.proofs.Ends.{failed}
use Rattle.c_front.proofs.Steps.{followed, one, past, name-missing, no-phrase}
use Rattle.c_front.proofs.Choices.{otherwise}
use Rattle.std.proofs.Common.{refl}
use Rattle.c_front.proofs.declaration.parameter.Goals as goal

pub returns-in_default-clause-err : goal.returns-in_default-clause-err
returns-in_default-clause-err c = let h = c.in_default.ensures.none in no-phrase refl (λ after. otherwise a_type _ h)

pub returns-in_err-name-clause-err : goal.returns-in_err-name-clause-err
returns-in_err-name-clause-err c = failed _ c.from_residual.ensures.1 (past c.in-Some.ensures.some (name-missing c.in_err-name.ensures.err))

pub returns-clause-ok : goal.returns-clause-ok
returns-clause-ok c = followed c.in-Some.ensures.some (one is_name c.in_ok-name.ensures.ok)
