use Rattle.c_statements.specs.Calls.{function_signs, out_signs}
use Rattle.c_statements.proofs.call.signature.Goals as goal

pub returns-in-Function-clause-some : goal.returns-in-Function-clause-some
returns-in-Function-clause-some c = rw c.in-Function.is function_signs

pub returns-in-Out-clause-some : goal.returns-in-Out-clause-some
returns-in-Out-clause-some c = rw c.in-Out.is out_signs
