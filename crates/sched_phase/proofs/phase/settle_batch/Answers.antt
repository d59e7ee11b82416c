use Rattle.std.proofs.lemmas.List.Elements.{All-rest}
use Rattle.sched_phase.specs.Settling.{IsRightRun}
use Rattle.sched_phase.proofs.phase.settle_batch.Goals as goal

pub loop-run-preserved-in_default : goal.loop-run-preserved-in_default
loop-run-preserved-in_default g c =
    let was = c.loop-run.invariant in
    let right = IsRightRun (g.R.Reorder.proposes c.args.reorder.now) c.args.unit.now.blocks in
    (All-rest right _ _ _ c.in-Some.ensures.steps.0 was.0, was.1, was.2)

pub loop-run-preserved-then-start-end : goal.loop-run-preserved-then-start-end
loop-run-preserved-then-start-end g c =
    let given = c.in_ok-settle_run.ensures in
    let right = IsRightRun (g.R.Reorder.proposes c.args.reorder.now) c.args.unit.now.blocks in
    (All-rest right _ _ _ c.in-Some.ensures.steps.0 c.loop-run.invariant.0, given.done, given.within)

pub loop-run-preserved : goal.loop-run-preserved
loop-run-preserved g c =
    let was = c.loop-run.invariant in
    let right = IsRightRun (g.R.Reorder.proposes c.args.reorder.now) c.args.unit.now.blocks in
    (All-rest right _ _ _ c.in-Some.ensures.steps.0 was.0, was.1, was.2)
