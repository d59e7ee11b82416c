use Rattle.mips_asm.proofs.Composed.{each_layout_runs}
use Rattle.mips_asm.proofs.laws.each_layout_runs.Goals as goal

pub returns : goal.returns
returns c = each_layout_runs
