use Rattle.mips_homes.proofs.Kept.{never_forgets}
use Rattle.mips_homes.proofs.laws.each_choice_never_forgets.Goals as goal

pub returns : goal.returns
returns c = never_forgets
