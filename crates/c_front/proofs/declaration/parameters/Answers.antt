use Rattle.std.proofs.Common.{arith, refl, sym, append_assoc, append-nil}
use Rattle.std.proofs.lemmas.Result.{IfOk-at_ok}
use Rattle.c_front.specs.Grammar.{parameters, more_parameters, is_the, parameters_void, parameters_some, more_parameters_end, more_parameters_more}
use Rattle.c_front.specs.Reading.{read_nothing}
use Rattle.c_front.proofs.Ends.{failed, stops}
use Rattle.c_front.proofs.Steps.{shorter, followed, mark, whole, taken, within, inside, begun, goes-first, goes-more}
use Rattle.c_front.proofs.Reading.{takes}
use Rattle.c_front.proofs.Choices.{otherwise}
use Rattle.c_front.proofs.declaration.parameters.Goals as goal

pub returns-in-Some-clause-ok : goal.returns-in-Some-clause-ok
returns-in-Some-clause-ok c = rw c.new.ensures.items (taken parameters_void is_the c.in-Some.ensures.some refl read_nothing)

pub returns-in_err-rest-clause-err : goal.returns-in_err-rest-clause-err
returns-in_err-rest-clause-err c = failed _ c.from_residual.ensures.1 (inside parameters_some (otherwise parameters _ c.in_default.ensures.none) (λ z. z)
    (within _ (stops _ _ _ _ c.in_err-rest.ensures.err c.parameter.ensures.err)))

pub more-init : goal.more-init
more-init c =
    let r = c.in_ok-rest.ensures.ok in
    rw (r.2, c.new-all.ensures.items) (goes-more goes-first parameters_some (otherwise parameters _ c.in_default.ensures.none) (λ z. z)
    (IfOk-at_ok _ r.1 c.parameter.ensures.ok) (λ m. refl))

pub returns-in_err-rest-2-clause-err : goal.returns-in_err-rest-2-clause-err
returns-in_err-rest-2-clause-err c = failed _ c.from_residual-in_err-rest-2.ensures.1 (c.more.invariant.stuck _
    (begun more_parameters_more is_the c.in-Some-starts.ensures.some refl
    (within _ (stops _ _ _ _ c.in_err-rest-2.ensures.err c.parameter-in-Some-starts.ensures.err))))

pub more-preserved : goal.more-preserved
more-preserved c =
    let r = c.in_ok-rest-2.ensures.ok in
    rw r.2 (goes-more c.more.invariant more_parameters_more (rw c.in-Some-starts.ensures.some) (λ z. z)
    (followed (mark c.in-Some-starts.ensures.some) (IfOk-at_ok _ r.1 c.parameter-in-Some-starts.ensures.ok)) (append_assoc c.more.all.items _))

pub returns-clause-ok : goal.returns-clause-ok
returns-clause-ok c =
    let read = c.more.invariant.reads _ _ (whole more_parameters_end (otherwise more_parameters _ c.in_default-starts.ensures.none) read_nothing) in
    rw (sym (append-nil c.more.all.items)) read

pub more-smaller : goal.more-smaller
more-smaller c = omega (arith, shorter c.in-Some-starts.ensures.some, takes tt (IfOk-at_ok _ c.in_ok-rest-2.ensures.ok.1 c.parameter-in-Some-starts.ensures.ok))
