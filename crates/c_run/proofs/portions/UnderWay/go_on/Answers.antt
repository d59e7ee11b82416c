use Rattle.std.proofs.Common.{None, Some, sym, ◌∙◌, arith}
use Rattle.runs.specs.declared.ran.End.TheVariants.{More}
use Rattle.runs.proofs.Portions.{one_more_fewer}
use Rattle.c_run.specs.Portions.{comes_to}
use Rattle.c_run.proofs.Going.{one_step}
use Rattle.c_run.proofs.portions.UnderWay.go_on.Goals as goal

pub returns-in-Some-clause-went : goal.returns-in-Some-clause-went
returns-in-Some-clause-went c =
    one_step c.args.steps c.args.self.now c.loop-ran.self c.step.new.interpreter c.in_ok-reached.reached (Some c.in-Some.end) c.loop-ran.ran c.loop-ran-test.true
    c.loop-ran.invariant.went c.loop-ran.invariant.program c.loop-ran.invariant.depth c.in_ok-reached.ensures (sym c.end.ensures ∙ c.in-Some.is)

pub returns-then-outputs-len-clause-went : goal.returns-then-outputs-len-clause-went
returns-then-outputs-len-clause-went c =
    one_step c.args.steps c.args.self.now c.loop-ran.self c.step.new.interpreter c.in_ok-reached.reached None c.loop-ran.ran c.loop-ran-test.true
    c.loop-ran.invariant.went c.loop-ran.invariant.program c.loop-ran.invariant.depth c.in_ok-reached.ensures (sym c.end.ensures ∙ c.in_default.is)

pub loop-ran-preserved : goal.loop-ran-preserved
loop-ran-preserved c =
    let went = one_step c.args.steps c.args.self.now c.loop-ran.self c.step.new.interpreter c.in_ok-reached.reached None c.loop-ran.ran c.loop-ran-test.true
    c.loop-ran.invariant.went c.loop-ran.invariant.program c.loop-ran.invariant.depth c.in_ok-reached.ensures (sym c.end.ensures ∙ c.in_default.is) in
    record {
      went = went;
      program = c.loop-ran.invariant.program;
      depth = c.loop-ran.invariant.depth;
      fewer = one_more_fewer comes_to More c.args.steps c.args.self.now _ c.args.outputs c.loop-ran.ran went (omega arith) c.loop-ran.invariant.fewer;
    }

pub returns-in-Some-clause-outputs : goal.returns-in-Some-clause-outputs
returns-in-Some-clause-outputs c = record {
  before = λ k some less. c.loop-ran.invariant.fewer k some (omega arith);
  stopped = λ none less. cc;
}

pub returns-then-outputs-len-clause-outputs : goal.returns-then-outputs-len-clause-outputs
returns-then-outputs-len-clause-outputs c = record {
  before = λ k some less. c.loop-ran.invariant.fewer k some (omega arith);
  stopped = λ none less. omega arith;
}

pub returns-clause-outputs : goal.returns-clause-outputs
returns-clause-outputs c = record {
  before = λ k some less. c.loop-ran.invariant.fewer k some (omega arith);
  stopped = λ none less. absurd (omega arith);
}
