use Rattle.mips_isa.proofs.Memory.{stores-commute}
use Rattle.mips_isa.proofs.laws.stores_commute.Goals as goal

pub returns : goal.returns
returns c = stores-commute
