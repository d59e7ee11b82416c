use Rattle.std.proofs.Common.{◌∙◌, sym}
use Rattle.runs.proofs.Running.{goes-on, ends}
use Rattle.c_types.specs.Shape.{program_of}
use Rattle.c_typed.specs.Meaning.{source_run}
use Rattle.c_run.proofs.Explained.{comes_to, by-one-step, ended-by}
use Rattle.c_run.proofs.reasons.reason_of.Goals as goal

pub loop-preserved : goal.loop-preserved
loop-preserved c =
    let p = program_of c.args.program.now in
    let m = c.loop.interpreter in
    let after = c.explained_step.new.interpreter in
    let r = c.in_ok-reached.reached in
    goes-on (comes_to p c.args.depth m) (comes_to p c.args.depth after) (source_run p c.args.depth c.args.steps) c.args.steps c.loop.counter r
    after.output.items c.loop-test.true c.loop.invariant (by-one-step p c.args.depth m after r c.in_ok-reached.ensures.step)
    (sym c.end.ensures ∙ c.in_default.is)

pub returns-in-Some-clause-wrong : goal.returns-in-Some-clause-wrong
returns-in-Some-clause-wrong c =
    let p = program_of c.args.program.now in
    let m = c.loop.interpreter in
    let after = c.explained_step.new.interpreter in
    let r = c.in_ok-reached.reached in
    let end = c.in-Some.field-0 in
    let whole = source_run p c.args.depth c.args.steps in
    let is = sym c.end.ensures ∙ c.in-Some.is in
    ended-by r end after.output.items whole c.in_ok-reached.reason c.in_ok-reached.ensures.failed is
    (ends (comes_to p c.args.depth m) (comes_to p c.args.depth after) whole c.args.steps c.loop.counter r after.output.items end c.loop-test.true
    c.loop.invariant (by-one-step p c.args.depth m after r c.in_ok-reached.ensures.step) is)
