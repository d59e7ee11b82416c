use Rattle.mips_isa.specs.declared.inst.Plain.TheVariants as plains
use Rattle.block_text.proofs.Lacking.{read_two}
use Rattle.block_text.proofs.Values.{made-two, nothing}
use Rattle.block_text.proofs.operands.divide.Goals as goal

pub returns-in_err-rs-clause-only : goal.returns-in_err-rs-clause-only
returns-in_err-rs-clause-only c = λ rs rt h. absurd (nothing _ (read_two c.in_err-rs.ensures.only rs rt h.0 h.2))

pub returns-clause-only : goal.returns-clause-only
returns-clause-only c = λ rs rt h. made-two (plains.Divide c.args.sign) _ rs rt (read_two c.in_ok-rs.ensures.only rs rt h.0 h.2)
