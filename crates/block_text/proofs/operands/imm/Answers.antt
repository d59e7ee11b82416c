use Rattle.std.proofs.Common.{◌∙◌, to_z, of_z, ap, Some, refl}
use Rattle.std.specs.Int.{w16}
use Rattle.block_text.proofs.Decimals.{kept}
use Rattle.mips_isa.specs.declared.inst.Plain.TheVariants as plains
use Rattle.block_text.proofs.Lacking.{read_three}
use Rattle.block_text.proofs.Values.{made-three, nothing}
use Rattle.block_text.proofs.operands.imm.Goals as goal

pub returns-in_err-rt-clause-only : goal.returns-in_err-rt-clause-only
returns-in_err-rt-clause-only c = λ rt rs n h. absurd (nothing _ (read_three c.in_err-rt.ensures.only rt rs n h.0 h.2))

pub returns-clause-only : goal.returns-clause-only
returns-clause-only c = λ rt rs n h.
    made-three (λ r s i. plains.Imm c.args.op r s (to_z w16 (of_z w16 i))) _ rt rs n (read_three c.in_ok-rt.ensures.only rt rs n h.0 h.2)
    ∙ ap (λ i. Some (plains.Imm c.args.op rt rs i)) (kept n n refl h.0.2)
