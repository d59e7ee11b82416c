use Rattle.std.proofs.Common.{ap}
use Rattle.mips_machine.proofs.registers.Registers.first.Goals as goal

pub invariant_of-result : goal.invariant_of-result
invariant_of-result c = record { zero = ap (λ f. f 0) c.first_registers.ensures }
