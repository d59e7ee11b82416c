use Rattle.mips_isa.proofs.Memory.{load-past-store}
use Rattle.mips_isa.proofs.laws.loads_pass_stores.Goals as goal

pub returns : goal.returns
returns c = load-past-store
