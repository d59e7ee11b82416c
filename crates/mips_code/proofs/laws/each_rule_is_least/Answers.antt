use Rattle.mips_code.proofs.Least.{least}
use Rattle.mips_code.proofs.laws.each_rule_is_least.Goals as goal

pub returns : goal.returns
returns c = least
