use Rattle.c_run.proofs.Going.{output_before}
use Rattle.c_run.proofs.portions.output_goes_before.Goals as goal

pub returns : goal.returns
returns c = output_before
