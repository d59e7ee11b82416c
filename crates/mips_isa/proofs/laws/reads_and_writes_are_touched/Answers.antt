use Rattle.mips_isa.proofs.Rules.{touches_is}
use Rattle.mips_isa.proofs.laws.reads_and_writes_are_touched.Goals as goal

pub returns : goal.returns
returns c = touches_is
