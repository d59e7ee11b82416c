use Rattle.c_tokens.proofs.Pieces.{found}
use Rattle.c_tokens.proofs.lexer.any_step.Goals as goal

pub returns-clause-found : goal.returns-clause-found
returns-clause-found c = record { lexeme = c.next.result; next = rw c.next.ensures.same (found c.args.text.now); step = c.step_at.ensures }
