use Rattle.mips_machine.proofs.Going.{output_before}
use Rattle.mips_machine.proofs.portions.output_goes_before.Goals as goal

pub returns : goal.returns
returns c = output_before
