use Rattle.std.proofs.Common.{◌∙◌, sym}
use Rattle.runs.proofs.Running.{goes-on, ends, bound-reached}
use Rattle.runs.proofs.run.run_steps.Goals as goal

pub loop-preserved : goal.loop-preserved
loop-preserved g c comes_to is =
    goes-on (comes_to c.loop.interpreter) (comes_to c.step.new.arg2) _ c.args.steps c.loop.counter c.in_ok-reached.reached c.step.new.arg2.output.items
    c.loop-test.true (c.loop.invariant comes_to is) (is.by_step _ _ c.in_ok-reached.reached c.in_ok-reached.ensures) (sym c.end.ensures ∙ c.in_default.is)

pub returns-in-Some : goal.returns-in-Some
returns-in-Some g c comes_to is =
    ends (comes_to c.loop.interpreter) (comes_to c.step.new.arg2) _ c.args.steps c.loop.counter c.in_ok-reached.reached c.step.new.arg2.output.items
    c.in-Some.end c.loop-test.true (c.loop.invariant comes_to is) (is.by_step _ _ c.in_ok-reached.reached c.in_ok-reached.ensures)
    (sym c.end.ensures ∙ c.in-Some.is)

pub returns : goal.returns
returns g c comes_to is =
    bound-reached (comes_to c.loop.interpreter) _ c.args.steps c.loop.counter c.loop.interpreter.output.items c.loop-test.false
    (c.loop.invariant comes_to is) (is.without_steps c.loop.interpreter)
