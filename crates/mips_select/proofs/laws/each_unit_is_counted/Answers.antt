use Rattle.mips_select.proofs.Counted.{each_counted}
use Rattle.mips_select.proofs.laws.each_unit_is_counted.Goals as goal

pub returns : goal.returns
returns c = each_counted
