use Rattle.c_tokens.proofs.Fitting.{over-step}
use Rattle.c_tokens.proofs.constants.number.Goals as goal

pub returns-then-n-limit : goal.returns-then-n-limit
returns-then-n-limit c = over-step _ _ _ _ _ _ _ _ c.in-Some.ensures.some c.digit-value.ensures.same c.requires.positive c.if-n-limit.true c.digits.invariant.0
