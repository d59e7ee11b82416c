use Rattle.std.proofs.lemmas.Result.{IfOk-weaker, IfErr-weaker}
use Rattle.driver.specs.Builds.{IsPlain, IsScheduledBuild}
use Rattle.driver.proofs.build_command.Halves.{followed_text, too_long, unwritten}
use Rattle.driver.proofs.builds.build_plain.Goals as goal

pub returns-clause-follows : goal.returns-clause-follows
returns-clause-follows c =
    let scheduled = c.in_ok-scheduled.ensures in
    IfOk-weaker _ _ _ (λ b w. followed_text 1 c.in_ok-unit.ensures.unit scheduled.unit w (w.runs.plain scheduled.plain)) c.write.ensures.written

pub returns-clause-scheduled : goal.returns-clause-scheduled
returns-clause-scheduled c =
    let scheduled = c.in_ok-scheduled.ensures in
    IfOk-weaker _ _ (IsScheduledBuild IsPlain)
    (λ b w. record { scheduled = _; suits = record { orders = scheduled.plain; report = scheduled.report }; build = w.build }) c.write.ensures.written

pub returns-clause-too_long : goal.returns-clause-too_long
returns-clause-too_long c =
    let scheduled = c.in_ok-scheduled.ensures in
    IfErr-weaker _ _ _ (too_long _ scheduled.unit (record { orders = scheduled.plain; report = scheduled.report }) c.in_ok-unit.ensures.unit)
    c.write.ensures.fault

pub returns-clause-fault : goal.returns-clause-fault
returns-clause-fault c =
    IfErr-weaker _ _ _ (λ e h. unwritten _ c.in_ok-scheduled.ensures.unit e h _ c.in_ok-unit.ensures.unit) c.write.ensures.fault
