use Rattle.mips_isa.proofs.Rules.{broken_is_least}
use Rattle.mips_isa.proofs.laws.each_broken_rule_is_least.Goals as goal

pub returns : goal.returns
returns c = broken_is_least
