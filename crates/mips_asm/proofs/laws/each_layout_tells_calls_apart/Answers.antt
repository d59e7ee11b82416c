use Rattle.mips_asm.proofs.Composed.{each_layout_tells_calls_apart}
use Rattle.mips_asm.proofs.laws.each_layout_tells_calls_apart.Goals as goal

pub returns : goal.returns
returns c = each_layout_tells_calls_apart
