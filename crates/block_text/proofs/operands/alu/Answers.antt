use Rattle.mips_isa.specs.declared.inst.Plain.TheVariants as plains
use Rattle.block_text.proofs.Lacking.{read_three}
use Rattle.block_text.proofs.Values.{made-three, nothing}
use Rattle.block_text.proofs.operands.alu.Goals as goal

pub returns-in_err-rd-clause-only : goal.returns-in_err-rd-clause-only
returns-in_err-rd-clause-only c = λ rd rs rt h. absurd (nothing _ (read_three c.in_err-rd.ensures.only rd rs rt h.0 h.2))

pub returns-clause-only : goal.returns-clause-only
returns-clause-only c = λ rd rs rt h. made-three (plains.Alu c.args.op) _ rd rs rt (read_three c.in_ok-rd.ensures.only rd rs rt h.0 h.2)
