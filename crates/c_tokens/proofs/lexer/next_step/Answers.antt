use Rattle.std.proofs.Common.{sym}
use Rattle.c_tokens.proofs.Marks.{mark-step, mark-there}
use Rattle.c_tokens.proofs.lexer.next_step.Goals as goal

pub returns-in-Some-clause-found : goal.returns-in-Some-clause-found
returns-in-Some-clause-found c = mark-step _ _ _ _ (mark-there c.args.text.now _ _ (sym c.in-Some.ensures.same) c.if-text-ne47.true)
