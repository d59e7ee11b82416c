use Rattle.std.proofs.Common.{sym, ◌∙◌}
use Rattle.std.proofs.Common.{None, Some}
use Rattle.c_tokens.proofs.Signs.{sign-none, sign-one, sign-two, sign-pair, sign-three}
use Rattle.c_tokens.proofs.sign.sign.Goals as goal
use Rattle.c_tokens.proofs.sign.sign.Goals.{in_default-split-via-in-Some-split+else-three, in_default-split-via-in_default-split}

pub returns-in_err-alone-clause-same : goal.returns-in_err-alone-clause-same
returns-in_err-alone-clause-same c = let h = sign-none c.in_ok-first.first c.in_ok-first.rest.now (sym c.one.ensures ∙ c.in_err-alone.was) in cc (h, c.in_ok-first.ensures.some)

pub returns-in_default-two-clause-same : goal.returns-in_default-two-clause-same
returns-in_default-two-clause-same c =
    let h = sign-one c.in_ok-first.first c.in-Some.second c.in-Some.more.now c.in_ok-alone.alone (sym c.one.ensures ∙ c.in_ok-alone.was) (sym c.two.ensures ∙ c.in_default-two.is) in cc (h, c.in_ok-first.ensures.some, c.in-Some.ensures.some)

pub returns-in-Some-split-clause-same : goal.returns-in-Some-split-clause-same
returns-in-Some-split-clause-same c =
    let h = sign-three c.in_ok-first.first c.in-Some.second c.in-Some-split.third c.in-Some-split.field-0-1.now (sym c.three.ensures ∙ c.if-three.true) in cc (h, c.in_ok-first.ensures.some, c.in-Some.ensures.some, c.in-Some-split.ensures.some)

pub returns-in_err-pair-in_default-split-clause-same : goal.returns-in_err-pair-in_default-split-clause-same
returns-in_err-pair-in_default-split-clause-same c =
    c.from_residual-in_err-pair-in_default-split.ensures ∙ elim c.in_default-split.branch [
      | in_default-split-via-in-Some-split+else-three w ↦ sign-pair c.in_ok-first.first c.in-Some.second
          w.in-Some-split.third c.in-Some-two.pair None c.in_ok-first.ensures.some c.in-Some.ensures.some w.in-Some-split.ensures.some
          (sym c.two.ensures ∙ c.in-Some-two.is) (sym w.three.ensures ∙ w.if-three.false) c.in_err-pair-in_default-split.was
      | in_default-split-via-in_default-split w ↦
          sign-two c.in_ok-first.first c.in-Some.second c.in-Some-two.pair None c.in_ok-first.ensures.some c.in-Some.ensures.some
          w.in_default-split.ensures.none (sym c.two.ensures ∙ c.in-Some-two.is) c.in_err-pair-in_default-split.was
    ]

pub returns-in_ok-pair-in_default-split-clause-same : goal.returns-in_ok-pair-in_default-split-clause-same
returns-in_ok-pair-in_default-split-clause-same c =
    elim c.in_default-split.branch [
      | in_default-split-via-in-Some-split+else-three w ↦ sign-pair c.in_ok-first.first c.in-Some.second
          w.in-Some-split.third c.in-Some-two.pair (Some c.in_ok-pair-in_default-split.field-0) c.in_ok-first.ensures.some c.in-Some.ensures.some w.in-Some-split.ensures.some
          (sym c.two.ensures ∙ c.in-Some-two.is) (sym w.three.ensures ∙ w.if-three.false) c.in_ok-pair-in_default-split.was
      | in_default-split-via-in_default-split w ↦
          sign-two c.in_ok-first.first c.in-Some.second c.in-Some-two.pair (Some c.in_ok-pair-in_default-split.field-0) c.in_ok-first.ensures.some c.in-Some.ensures.some
          w.in_default-split.ensures.none (sym c.two.ensures ∙ c.in-Some-two.is) c.in_ok-pair-in_default-split.was
    ]
