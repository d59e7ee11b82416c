use Rattle.std.proofs.Common.{◌∙◌, to_z, of_z, ap, Some, refl}
use Rattle.std.specs.Int.{w16}
use Rattle.block_text.specs.declared.operands.Address.{Address}
use Rattle.block_text.proofs.Decimals.{kept}
use Rattle.mips_isa.specs.declared.inst.Plain.TheVariants as plains
use Rattle.block_text.proofs.Lacking.{read_two}
use Rattle.block_text.proofs.Values.{made-two, nothing}
use Rattle.block_text.proofs.operands.store.Goals as goal

pub returns-in_err-rt-clause-only : goal.returns-in_err-rt-clause-only
returns-in_err-rt-clause-only c = λ rt base n h.
    absurd (nothing _ (read_two c.in_err-rt.ensures.only rt (record { base = base; offset = n }) (h.0.0, (h.0.1, h.0.2)) h.2))

pub returns-clause-only : goal.returns-clause-only
returns-clause-only c = λ rt base n h.
    let at : Address = record { base = base; offset = n } in
    made-two (λ r a. plains.Store c.args.width r a.base (to_z w16 (of_z w16 a.offset))) _ rt at (read_two c.in_ok-rt.ensures.only rt at (h.0.0, (h.0.1, h.0.2)) h.2)
    ∙ ap (λ i. Some (plains.Store c.args.width rt base i)) (kept n n refl h.0.2)
