use Rattle.c_statements.proofs.Joins.{answers-of}
use Rattle.c_types.proofs.Parameters.{one-name}
use Rattle.c_types.proofs.declaration.parameter_fault.Goals as goal

pub returns : goal.returns
returns c = one-name (answers-of c.fifth_parameter.ensures.none c.fifth_parameter.ensures.err)
    (answers-of c.declarator.ensures.none c.declarator.ensures.err) c.either.ensures.ok c.either.ensures.err
