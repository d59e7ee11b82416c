use Rattle.std.proofs.Common.{◌∙◌, to_z, of_z, ap, Some, refl}
use Rattle.std.specs.Int.{w16}
use Rattle.block_text.proofs.Decimals.{kept}
use Rattle.mips_isa.specs.declared.inst.Plain.TheVariants as plains
use Rattle.block_text.proofs.Lacking.{comma_register}
use Rattle.block_text.proofs.Values.{made-two, nothing}
use Rattle.block_text.proofs.operands.load.Goals as goal

pub returns-in_err-rt-clause-only : goal.returns-in_err-rt-clause-only
returns-in_err-rt-clause-only c = λ rt base n h.
    absurd (nothing (rt, (record { base = base; offset = n }))
    (c.in_err-rt.ensures.only rt (record { base = base; offset = n }) (comma_register rt h.0.1) (h.0.0, h.0.1) (h.0.2, h.0.3) h.2))

pub returns-clause-only : goal.returns-clause-only
returns-clause-only c = λ rt base n h.
    made-two (λ r a. plains.Load c.args.width r a.base (to_z w16 (of_z w16 a.offset))) _ rt (record { base = base; offset = n })
    (c.in_ok-rt.ensures.only rt (record { base = base; offset = n }) (comma_register rt h.0.1) (h.0.0, h.0.1) (h.0.2, h.0.3) h.2)
    ∙ ap (λ i. Some (plains.Load c.args.width rt base i)) (kept n n refl h.0.3)
