use Rattle.mips_asm.proofs.Fits.{layout_fits}
use Rattle.mips_asm.proofs.laws.each_layout_fits.Goals as goal

pub returns : goal.returns
returns c = layout_fits
