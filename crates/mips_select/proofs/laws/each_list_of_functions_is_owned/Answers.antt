use Rattle.mips_select.proofs.Owned.{functions_owned}
use Rattle.mips_select.proofs.laws.each_list_of_functions_is_owned.Goals as goal

pub returns : goal.returns
returns c = functions_owned
