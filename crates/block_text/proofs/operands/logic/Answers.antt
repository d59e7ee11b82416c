use Rattle.mips_isa.specs.declared.inst.Plain.TheVariants as plains
use Rattle.block_text.proofs.Lacking.{read_three}
use Rattle.block_text.proofs.Values.{made-three, nothing}
use Rattle.block_text.proofs.operands.logic.Goals as goal

pub returns-in_err-rt-clause-only : goal.returns-in_err-rt-clause-only
returns-in_err-rt-clause-only c = λ rt rs n h. absurd (nothing _ (read_three c.in_err-rt.ensures.only rt rs n h.0 h.2))

pub returns-clause-only : goal.returns-clause-only
returns-clause-only c = λ rt rs n h. made-three (plains.Logic c.args.op) _ rt rs n (read_three c.in_ok-rt.ensures.only rt rs n h.0 h.2)
