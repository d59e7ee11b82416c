use Rattle.sym_exec.proofs.Growth.{growth_bound}
use Rattle.sym_exec.proofs.run.growth_has_bound.Goals as goal

pub returns : goal.returns
returns c = growth_bound
