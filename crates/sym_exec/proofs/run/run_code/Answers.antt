use Rattle.std.proofs.Common.{rules}
use Rattle.sym_exec.proofs.Tickets.{goes_on, goes_more, interns_by}
use Rattle.sym_exec.proofs.run.run_code.Goals as goal

pub returns-in_err-start-clause-pass : goal.returns-in_err-start-clause-pass
returns-in_err-start-clause-pass c = interns_by (goes_on c.in_err-start.ensures.pass) (search rules)

pub returns-clause-pass : goal.returns-clause-pass
returns-clause-pass c = interns_by (goes_more (goes_on c.in_ok-start.ensures.pass) (goes_on c.run_from.ensures.pass)) c.run_from.ensures.pass.full

pub returns-clause-legal : goal.returns-clause-legal
returns-clause-legal c = c.run_from.ensures.pass.later.legal c.in_ok-start.ensures.legal
