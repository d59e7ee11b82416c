use Rattle.mips_asm.proofs.PlainRuns.{each_plain_layout_runs}
use Rattle.mips_asm.proofs.laws.each_plain_layout_runs.Goals as goal

pub returns : goal.returns
returns c = each_plain_layout_runs
