use Rattle.sched_phase.proofs.Outcomes as outcomes
use Rattle.sched_phase.proofs.laws.one_outcome.Goals as goal

pub returns : goal.returns
returns g c = outcomes.one_outcome (g.R.Reorder.proposes c.args.reorder.now)
