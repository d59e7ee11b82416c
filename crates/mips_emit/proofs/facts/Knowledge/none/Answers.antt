use Rattle.mips_emit.proofs.Tables.{nothing}
use Rattle.mips_emit.proofs.facts.Knowledge.none.Goals as goal

pub returns : goal.returns
returns c = nothing c.new.result.items c.new.ensures.items
