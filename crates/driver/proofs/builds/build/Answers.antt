use Rattle.std.proofs.Common.{◌+◌}
use Rattle.std.proofs.lemmas.Result.{IfOk-weaker, IfErr-weaker}
use Rattle.mblock.specs.declared.limits.TheConstants.{BLOCK_INSTS}
use Rattle.sched_phase.specs.Phases.{IsPhase}
use Rattle.driver.specs.Builds.{IsScheduledBuild}
use Rattle.driver.proofs.build_command.Halves.{followed_text, too_long, unwritten}
use Rattle.driver.proofs.builds.build.Goals as goal

pub returns-clause-follows : goal.returns-clause-follows
returns-clause-follows g c =
    IfOk-weaker _ _ _ (λ b w. followed_text (BLOCK_INSTS + 1) c.in_ok-unit.ensures.unit c.in_ok-scheduled.ensures.unit w w.runs.runs)
    c.write.ensures.written

pub returns-clause-scheduled : goal.returns-clause-scheduled
returns-clause-scheduled g c =
    IfOk-weaker _ _ (IsScheduledBuild (IsPhase (g.R.Reorder.proposes c.args.reorder.now)))
    (λ b w. record { scheduled = _; suits = c.in_ok-scheduled.ensures.phase; build = w.build }) c.write.ensures.written

pub returns-clause-fault : goal.returns-clause-fault
returns-clause-fault g c =
    IfErr-weaker _ _ _ (λ e h. unwritten _ c.in_ok-scheduled.ensures.unit e h _ c.in_ok-unit.ensures.unit) c.write.ensures.fault

pub returns-clause-too_long : goal.returns-clause-too_long
returns-clause-too_long g c =
    let scheduled = c.in_ok-scheduled.ensures in
    IfErr-weaker _ _ _ (too_long _ scheduled.unit scheduled.phase c.in_ok-unit.ensures.unit) c.write.ensures.fault
