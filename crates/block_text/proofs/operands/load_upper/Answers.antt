use Rattle.mips_isa.specs.declared.inst.Plain.TheVariants as plains
use Rattle.block_text.proofs.Lacking.{read_two}
use Rattle.block_text.proofs.Values.{made-two, nothing}
use Rattle.block_text.proofs.operands.load_upper.Goals as goal

pub returns-in_err-rt-clause-only : goal.returns-in_err-rt-clause-only
returns-in_err-rt-clause-only c = λ rt n h. absurd (nothing _ (read_two c.in_err-rt.ensures.only rt n h.0 h.2))

pub returns-clause-only : goal.returns-clause-only
returns-clause-only c = λ rt n h. made-two plains.LoadUpper _ rt n (read_two c.in_ok-rt.ensures.only rt n h.0 h.2)
