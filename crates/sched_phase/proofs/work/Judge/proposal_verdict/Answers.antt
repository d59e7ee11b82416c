use Rattle.sched_phase.proofs.Starting.{knows_on}
use Rattle.sched_phase.proofs.work.Judge.proposal_verdict.Goals as goal

pub returns-in-Some-clause-pass : goal.returns-in-Some-clause-pass
returns-in-Some-clause-pass g c =
    (c.validate_from.ensures.table, knows_on c.args.self.now.terms.now.start c.validate_from.ensures.later c.requires.1)
