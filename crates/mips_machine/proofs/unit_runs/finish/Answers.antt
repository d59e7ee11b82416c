use Rattle.std.proofs.Common.{ap, ◌∙◌}
use Rattle.mips_machine.specs.UnitViews.{ends_or, comes_to}
use Rattle.mips_machine.proofs.UnitSteps.{unit_goes_on, unit_ends}
use Rattle.mips_machine.proofs.unit_runs.finish.Goals as goal

pub returns-in-Some : goal.returns-in-Some
returns-in-Some c =
    unit_ends c.args.steps c.loop.counter c.loop.running c.step.new.self (comes_to c.args.steps c.args.running) c.in-Some.end c.loop-test.true
    (λ next. c.in_ok-ended.ensures.item next ∙ ap (λ o. ends_or o next c.step.new.self) c.in-Some.is) c.loop.invariant

pub loop-preserved : goal.loop-preserved
loop-preserved c =
    unit_goes_on c.args.steps c.loop.counter c.loop.running c.step.new.self (comes_to c.args.steps c.args.running) c.loop-test.true
    (λ next. c.in_ok-ended.ensures.item next ∙ ap (λ o. ends_or o next c.step.new.self) c.in_default.is) c.in_ok-ended.ensures.blocks
    c.loop.invariant
