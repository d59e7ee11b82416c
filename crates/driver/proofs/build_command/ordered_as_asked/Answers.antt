use Rattle.std.proofs.lemmas.Result.{IfOk-weaker, IfErr-weaker}
use Rattle.driver.proofs.build_command.Halves.{plain_as_asked, plain_unbuilt, scheduled_as_asked, scheduled_unbuilt}
use Rattle.driver.proofs.build_command.ordered_as_asked.Goals as goal

pub returns-in_ok-scheduled-clause-built : goal.returns-in_ok-scheduled-clause-built
returns-in_ok-scheduled-clause-built g c =
    let scheduled = c.in_ok-scheduled.ensures in
    rw c.if-asked.true (IfOk-weaker _ _ _
    (plain_as_asked scheduled.unit (record { orders = scheduled.plain; report = scheduled.report })) c.write-built.ensures.written)

pub returns-in_ok-scheduled-clause-fault : goal.returns-in_ok-scheduled-clause-fault
returns-in_ok-scheduled-clause-fault g c =
    let scheduled = c.in_ok-scheduled.ensures in
    IfErr-weaker _ _ _ (plain_unbuilt _ scheduled.unit (record { orders = scheduled.plain; report = scheduled.report })) c.write-built.ensures.fault

pub returns-in_ok-scheduled-2-clause-built : goal.returns-in_ok-scheduled-2-clause-built
returns-in_ok-scheduled-2-clause-built g c =
    let scheduled = c.in_ok-scheduled-2.ensures in
    rw c.if-asked.false (IfOk-weaker _ _ _ (scheduled_as_asked scheduled.unit scheduled.phase) c.write-built-else-asked.ensures.written)

pub returns-in_ok-scheduled-2-clause-fault : goal.returns-in_ok-scheduled-2-clause-fault
returns-in_ok-scheduled-2-clause-fault g c =
    let scheduled = c.in_ok-scheduled-2.ensures in
    IfErr-weaker _ _ _ (scheduled_unbuilt _ scheduled.unit scheduled.phase) c.write-built-else-asked.ensures.fault
