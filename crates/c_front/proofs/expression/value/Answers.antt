use Rattle.std.proofs.Common.{refl}
use Rattle.c_front.specs.Grammar.{is_name, value_plain, value_call, call_rule}
use Rattle.c_front.proofs.Ends.{failed}
use Rattle.c_front.proofs.Steps.{followed, mark, whole, taken}
use Rattle.c_front.proofs.Choices.{call-stuck, plain-chosen, value-plain-stuck}
use Rattle.c_front.proofs.expression.value.Goals as goal

pub returns-in_err-arguments-in-Some-clause-err : goal.returns-in_err-arguments-in-Some-clause-err
returns-in_err-arguments-in-Some-clause-err c =
    failed _ c.from_residual.ensures.1 (call-stuck value_call refl c.in-Some.ensures.some c.in_err-arguments-in-Some.ensures.err)

pub returns-in_err-inner-in-None-clause-err : goal.returns-in_err-inner-in-None-clause-err
returns-in_err-inner-in-None-clause-err c =
    failed _ c.from_residual-in_err-inner-in-None.ensures.1 (value-plain-stuck c.in-None.ensures.none c.in_err-inner-in-None.ensures.err)

pub returns-in_ok-arguments-in-Some-clause-ok : goal.returns-in_ok-arguments-in-Some-clause-ok
returns-in_ok-arguments-in-Some-clause-ok c = let e = c.in-Some.ensures.some in
    whole value_call (rw e) (taken call_rule is_name e refl (followed (mark refl) c.in_ok-arguments-in-Some.ensures.ok))

pub returns-in_ok-inner-in-None-clause-ok : goal.returns-in_ok-inner-in-None-clause-ok
returns-in_ok-inner-in-None-clause-ok c = whole value_plain (plain-chosen _ _ c.in-None.ensures.none) c.in_ok-inner-in-None.ensures.ok
