use Rattle.std.proofs.Common.{refl}
use Rattle.sym_exec.proofs.Tracking.{chain_start}
use Rattle.sym_exec.proofs.run.begin.Goals as goal

pub returns-clause-chain : goal.returns-clause-chain
returns-clause-chain c p has = chain_start c.requires.empty has.memory refl c.push_reserved.ensures.items
