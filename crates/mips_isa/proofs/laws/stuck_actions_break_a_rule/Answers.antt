use Rattle.mips_isa.proofs.Rules.{stuck_is}
use Rattle.mips_isa.proofs.laws.stuck_actions_break_a_rule.Goals as goal

pub returns : goal.returns
returns c = stuck_is
