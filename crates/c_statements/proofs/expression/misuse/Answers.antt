-- Search finds this too, but takes long to find that a fault elsewhere isn't it.
use Rattle.std.proofs.Common.{refl}
use Rattle.c_statements.proofs.expression.misuse.Goals as goal

pub returns : goal.returns
returns c = refl
