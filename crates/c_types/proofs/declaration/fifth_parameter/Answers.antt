use Rattle.std.proofs.Common.{sym, ◌∙◌}
use Rattle.c_statements.specs.Shape.{scopes_of}
use Rattle.c_types.proofs.Parameters.{fifth-stops}
use Rattle.c_types.proofs.declaration.fifth_parameter.Goals as goal

pub returns-then-locals-eq-MAX_PARAMETERS-clause-err : goal.returns-then-locals-eq-MAX_PARAMETERS-clause-err
returns-then-locals-eq-MAX_PARAMETERS-clause-err c =
    fifth-stops (scopes_of c.args.scopes.now) c.args.name _ (sym c.locals.ensures ∙ c.if-locals-eq-MAX_PARAMETERS.true) c.misuse.ensures

pub returns-clause-none : goal.returns-clause-none
returns-clause-none c = λ k at w. c.if-locals-eq-MAX_PARAMETERS.false (c.locals.ensures ∙ w.0)
