use Rattle.mips_select.proofs.Theorem.{each_unit}
use Rattle.mips_select.proofs.laws.each_unit_keeps_runs.Goals as goal

pub returns : goal.returns
returns c = each_unit
