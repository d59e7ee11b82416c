use Rattle.std.proofs.Common.{sym, ap, subst, ◌∙◌, arith}
use Rattle.std.proofs.lemmas.Option.{none-some}
use Rattle.image.specs.Images.{parts_of, image_fault}
use Rattle.image.proofs.Laws.{Says, says, passed, parts_again, no_fault}
use Rattle.image.proofs.bytes.read_image.Goals as goal

pub returns-in-Some-clause-each : goal.returns-in-Some-clause-each
returns-in-Some-clause-each c = λ i h e. absurd (none-some c.in-Some.fault (sym (no_fault i h) ∙ ap image_fault e ∙ sym c.image_fault.ensures ∙ c.in-Some.is))

pub returns-clause-read : goal.returns-clause-read
returns-clause-read c =
    subst (Says c.args.bytes.now) (sym c.in_ok-image.ensures)
    (says c.args.bytes.now (λ i. omega (arith, c.type_inv.bytes i)) (passed c.args.bytes.now (sym c.image_fault.ensures ∙ c.in_default.is)))

pub returns-clause-each : goal.returns-clause-each
returns-clause-each c = λ i h e. c.in_ok-image.ensures ∙ ap parts_of (sym e) ∙ parts_again i h
