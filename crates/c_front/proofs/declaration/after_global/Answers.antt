use Rattle.std.proofs.Common.{refl}
use Rattle.std.proofs.lemmas.Result.{IfOk-at_ok, IfOk-weaker, IfErr-weaker}
use Rattle.c_front.specs.Grammar.{after_global, is_the, global_plain, global_initial, global_function, global_array}
use Rattle.c_front.specs.Reading.{read_nothing}
use Rattle.c_front.proofs.Ends.{failed, unended}
use Rattle.c_front.proofs.Steps.{followed, mark, whole, taken, inside, begun}
use Rattle.c_front.proofs.Choices.{otherwise}
use Rattle.c_front.proofs.declaration.after_global.Goals as goal

pub returns-in-Some-clause-ok : goal.returns-in-Some-clause-ok
returns-in-Some-clause-ok c = (_, taken global_plain is_the c.in-Some.ensures.some refl read_nothing, refl)

pub returns-in_err-given-clause-err : goal.returns-in_err-given-clause-err
returns-in_err-given-clause-err c = failed _ c.from_residual.ensures.1 (begun global_initial is_the c.in-Some-starts.ensures.some refl
    (unended _ _ _ _ _ _ c.in_err-given.ensures.err c.initial.ensures.ok c.initial.ensures.err))

pub returns-in-Some-starts-clause-ok : goal.returns-in-Some-starts-clause-ok
returns-in-Some-starts-clause-ok c =
    let d = c.in_ok-given.ensures.ok in
    (_, taken global_initial is_the c.in-Some-starts.ensures.some refl (followed (IfOk-at_ok _ d.1 c.initial.ensures.ok) (mark d.2)), refl)

pub returns-in-Some-starts-2-clause-err : goal.returns-in-Some-starts-2-clause-err
returns-in-Some-starts-2-clause-err c = IfErr-weaker c.array.result _ _
    (λ s h. begun global_array is_the c.in-Some-starts-2.ensures.some refl h) c.array.ensures.err

pub returns-in-Some-starts-2-clause-ok : goal.returns-in-Some-starts-2-clause-ok
returns-in-Some-starts-2-clause-ok c = IfOk-weaker c.array.result _ _
    (λ r d. (_, taken global_array is_the c.in-Some-starts-2.ensures.some refl d.1, d.2)) c.array.ensures.ok

pub returns-clause-ok : goal.returns-clause-ok
returns-clause-ok c =
    let chosen = otherwise after_global _ (c.in_default.ensures.none, c.in_default-starts.ensures.none, c.in_default-starts-2.ensures.none) in
    IfOk-weaker c.function.result _ _ (λ r f. (_, whole global_function chosen f.2, f.3)) c.function.ensures.ok

pub returns-clause-err : goal.returns-clause-err
returns-clause-err c =
    let chosen = otherwise after_global _ (c.in_default.ensures.none, c.in_default-starts.ensures.none, c.in_default-starts-2.ensures.none) in
    IfErr-weaker c.function.result _ _ (λ s h. inside global_function chosen (λ z. z) h) c.function.ensures.err
