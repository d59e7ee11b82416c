use Rattle.mips_emit.proofs.Tables.{nothing}
use Rattle.mips_emit.proofs.facts.Knowledge.clear.Goals as goal

pub returns : goal.returns
returns c = nothing c.clear.new.self.items c.clear.ensures.items
