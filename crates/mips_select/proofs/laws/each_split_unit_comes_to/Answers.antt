use Rattle.mips_select.proofs.SplitSimulation.{comes_to}
use Rattle.mips_select.proofs.laws.each_split_unit_comes_to.Goals as goal

pub returns : goal.returns
returns c = comes_to 512
