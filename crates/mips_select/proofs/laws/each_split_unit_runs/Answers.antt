use Rattle.mips_select.proofs.SplitSimulation.{unit_runs, told_apart}
use Rattle.mips_select.proofs.laws.each_split_unit_runs.Goals as goal

pub returns : goal.returns
returns c = λ blocks linked links tells. (told_apart 512 blocks links tells, λ s i. unit_runs 512 blocks linked links s i)
