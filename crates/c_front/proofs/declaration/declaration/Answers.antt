use Rattle.std.proofs.Common.{refl, inl, inr}
use Rattle.std.proofs.lemmas.Result.{IfOk-at_ok, IfErr-at_err, IfOk-weaker, IfErr-weaker}
use Rattle.c_front.specs.Grammar.{a_type, is_the, is_name, declaration_typed, declaration_void, declaration_bytes}
use Rattle.c_front.proofs.Ends.{failed}
use Rattle.c_front.proofs.Reading.{takes}
use Rattle.c_front.proofs.Steps.{followed, one, mark, whole, taken, past, inside, inside-past, begun, no-phrase, name-missing, missing}
use Rattle.c_front.proofs.Choices.{chosen-typed, no-unsigned, otherwise}
use Rattle.c_front.proofs.declaration.declaration.Goals as goal

pub returns-in_err-name-clause-err : goal.returns-in_err-name-clause-err
returns-in_err-name-clause-err c = failed _ c.from_residual.ensures.1
    (begun declaration_void is_the c.in-Some.ensures.some refl (name-missing c.in_err-name.ensures.err))

pub returns-in-Some-clause-ok : goal.returns-in-Some-clause-ok
returns-in-Some-clause-ok c = IfOk-weaker c.function.result _ _
    (λ r f. rw f.3 (taken declaration_void is_the c.in-Some.ensures.some refl (followed (one is_name c.in_ok-name.ensures.ok) f.2))) c.function.ensures.ok

pub returns-in-Some-clause-err : goal.returns-in-Some-clause-err
returns-in-Some-clause-err c = IfErr-weaker c.function.result _ _
    (λ s h. begun declaration_void is_the c.in-Some.ensures.some refl (past (one is_name c.in_ok-name.ensures.ok) h)) c.function.ensures.err

pub returns-in_err-name-2-clause-err : goal.returns-in_err-name-2-clause-err
returns-in_err-name-2-clause-err c = failed _ c.from_residual-in_err-name-2.ensures.1
    (begun declaration_bytes is_the c.in-Some-starts_bytes.ensures.some refl (past (mark refl) (elim c.in_err-name-2.ensures.err [
      | inl e ↦ name-missing (IfErr-at_err _ e c.name-in-Some-starts_bytes.ensures.err)
      | inr m ↦ past (one is_name (IfOk-at_ok _ m.2 c.name-in-Some-starts_bytes.ensures.ok)) (missing m.3)
    ])))

pub returns-in-Some-starts_bytes-clause-ok : goal.returns-in-Some-starts_bytes-clause-ok
returns-in-Some-starts_bytes-clause-ok c =
    let n = c.in_ok-name-2.ensures.ok in
    IfOk-weaker c.array.result _ _ (λ r d. rw d.2 (taken declaration_bytes is_the c.in-Some-starts_bytes.ensures.some refl (followed (mark refl)
    (followed (one is_name (IfOk-at_ok _ n.1 c.name-in-Some-starts_bytes.ensures.ok)) (followed (mark n.2) d.1))))) c.array.ensures.ok

pub returns-in-Some-starts_bytes-clause-err : goal.returns-in-Some-starts_bytes-clause-err
returns-in-Some-starts_bytes-clause-err c =
    let n = c.in_ok-name-2.ensures.ok in
    IfErr-weaker c.array.result _ _ (λ s h. begun declaration_bytes is_the c.in-Some-starts_bytes.ensures.some refl (past (mark refl)
    (past (one is_name (IfOk-at_ok _ n.1 c.name-in-Some-starts_bytes.ensures.ok)) (past (mark n.2) h)))) c.array.ensures.err

pub returns-in_default-integer_type-clause-err : goal.returns-in_default-integer_type-clause-err
returns-in_default-integer_type-clause-err c =
    let k = c.in_default-integer_type.ensures.none in
    inside declaration_typed (chosen-typed _ _ c.in_default.ensures.none (λ e. absurd (k.1 e))) (no-unsigned _ k.1)
    (no-phrase refl (λ after. otherwise a_type _ k))

pub returns-in_err-name-3-clause-err : goal.returns-in_err-name-3-clause-err
returns-in_err-name-3-clause-err c =
    let d = c.in-Some-integer_type.ensures.some in
    failed _ c.from_residual-in_err-name-3.ensures.1
    (inside-past declaration_typed (chosen-typed _ _ c.in_default.ensures.none c.in_default-starts_bytes.ensures.none) d (takes tt d)
    (name-missing c.in_err-name-3.ensures.err))

pub returns-clause-ok : goal.returns-clause-ok
returns-clause-ok c =
    let chosen = chosen-typed _ _ c.in_default.ensures.none c.in_default-starts_bytes.ensures.none in
    IfOk-weaker c.after_global.result _ _ (λ r d. rw d.2 (whole declaration_typed chosen
    (followed c.in-Some-integer_type.ensures.some (followed (one is_name c.in_ok-name-3.ensures.ok) d.1)))) c.after_global.ensures.ok

pub returns-clause-err : goal.returns-clause-err
returns-clause-err c =
    let d = c.in-Some-integer_type.ensures.some in
    let chosen = chosen-typed _ _ c.in_default.ensures.none c.in_default-starts_bytes.ensures.none in
    IfErr-weaker c.after_global.result _ _
    (λ s h. inside-past declaration_typed chosen d (takes tt d) (past (one is_name c.in_ok-name-3.ensures.ok) h)) c.after_global.ensures.err
