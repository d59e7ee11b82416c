use Rattle.mips_asm.proofs.Units.{each_assembled_image_runs}
use Rattle.mips_asm.proofs.assembly.each_assembled_image_runs.Goals as goal

pub returns : goal.returns
returns c = each_assembled_image_runs
