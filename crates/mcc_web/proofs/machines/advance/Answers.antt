use Rattle.std.proofs.Common.{refl, sym, ap, ◌∙◌}
use Rattle.mips_code.specs.Machines.{step_of, words_code}
use Rattle.mips_machine.specs.Views.{machine_of, stepped_of}
use Rattle.mcc_web.proofs.Words.{behind_more, none_of, none_passed, passed_more}
use Rattle.mcc_web.proofs.machines.advance.Goals as goal

pub loop-k-init : goal.loop-k-init
loop-k-init c = record {
  ran = refl;
  code = refl;
  passed = none_passed (words_code c.args.machine.now.code.words.now) (machine_of c.args.machine.now) c.args.stretch.from c.args.stretch.stop;
}

pub loop-k-preserved : goal.loop-k-preserved
loop-k-preserved c =
    let now = machine_of c.loop-k.machine in
    let next = machine_of c.step.new.self in
    let first = words_code c.args.machine.now.code.words.now in
    let none = none_of c.in_ok-step.field-0 (sym c.is_some.ensures ∙ c.if-is_some.false) in
    let step = ap (λ k. step_of (words_code k.words.now now.pc) now) (sym c.loop-k.invariant.code) ∙ c.in_ok-step.ensures.step
    ∙ ap (λ o. stepped_of o next) none in
    record {
      ran = behind_more first c.loop-k.k (machine_of c.args.machine.now) now next c.loop-k.invariant.ran step;
      code = c.in_ok-step.ensures.code ∙ c.loop-k.invariant.code;
      passed = passed_more first (machine_of c.args.machine.now) now c.args.stretch.from c.args.stretch.stop c.loop-k.k c.loop-k.invariant.passed
          c.loop-k.invariant.ran (c.is_stopped.ensures.passed c.if-is_stopped.false);
    }
