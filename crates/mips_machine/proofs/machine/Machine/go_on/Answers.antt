use Rattle.std.proofs.Common.{◌≡◌, ◌≢◌, Option, ap, subst, ◌∙◌, arith}
use Rattle.std.specs.Prelude.{IfSome}
use Rattle.runs.proofs.Portions.{one_more_fewer}
use Rattle.mips_code.specs.declared.steps.Ending.{Ending}
use Rattle.mips_code.specs.declared.steps.Ending.TheVariants as endings
use Rattle.mips_machine.specs.Portions.{comes_to}
use Rattle.mips_machine.specs.Views.{machine_of, stepped_of}
use Rattle.mips_machine.proofs.Going.{ends, goes_on}
use Rattle.mips_machine.proofs.machine.Machine.go_on.Goals as goal

pub returns-in-Some-clause-went : goal.returns-in-Some-clause-went
returns-in-Some-clause-went c =
    let new = c.step.new.self in
    let P : Option Ending → Type 0 = λ o. IfSome o (λ end. (end ≢ endings.More) × (machine_of new ≡ machine_of c.loop-ran.self)) in
    let told = subst P c.in-Some.is c.in_ok-ended.ensures.ended in
    ends c.args.words c.args.self.now c.loop-ran.self new c.loop-ran.ran c.loop-ran-test.true c.loop-ran.invariant.went c.in_ok-ended.ensures.code
    c.in-Some.end told.0 (c.in_ok-ended.ensures.step ∙ ap (λ o. stepped_of o (machine_of new)) c.in-Some.is) told.1

pub loop-ran-preserved : goal.loop-ran-preserved
loop-ran-preserved c =
    let new = c.step.new.self in
    let went = goes_on c.args.words c.args.self.now c.loop-ran.self new c.loop-ran.ran c.loop-ran-test.true c.loop-ran.invariant.went
    c.in_ok-ended.ensures.code (c.in_ok-ended.ensures.step ∙ ap (λ o. stepped_of o (machine_of new)) c.in_default.is) in
    record {
      went = went;
      code = c.in_ok-ended.ensures.code ∙ c.loop-ran.invariant.code;
      fewer = one_more_fewer comes_to endings.More c.args.words c.args.self.now new c.args.outputs c.loop-ran.ran went (omega arith) c.loop-ran.invariant.fewer;
    }

pub returns-then-outputs-len-clause-went : goal.returns-then-outputs-len-clause-went
returns-then-outputs-len-clause-went c =
    let new = c.step.new.self in
    goes_on c.args.words c.args.self.now c.loop-ran.self new c.loop-ran.ran c.loop-ran-test.true c.loop-ran.invariant.went
    c.in_ok-ended.ensures.code (c.in_ok-ended.ensures.step ∙ ap (λ o. stepped_of o (machine_of new)) c.in_default.is)

pub returns-in-Some-clause-outputs : goal.returns-in-Some-clause-outputs
returns-in-Some-clause-outputs c = record {
  before = λ k some less. c.loop-ran.invariant.fewer k some (omega arith);
  stopped = λ none less. cc;
}

pub returns-then-outputs-len-clause-outputs : goal.returns-then-outputs-len-clause-outputs
returns-then-outputs-len-clause-outputs c = record {
  before = λ k some less. c.loop-ran.invariant.fewer k some (omega arith);
  stopped = λ none less. omega arith;
}

pub returns-clause-outputs : goal.returns-clause-outputs
returns-clause-outputs c = record {
  before = λ k some less. c.loop-ran.invariant.fewer k some (omega arith);
  stopped = λ none less. absurd (omega arith);
}
