use Rattle.mips_isa.proofs.Rules.{safe_is}
use Rattle.mips_isa.proofs.laws.safe_actions_keep_their_rules.Goals as goal

pub returns : goal.returns
returns c = safe_is
