-- Search finds these too, but takes long to find that an answer doesn't last.
use Rattle.std.proofs.Common.{refl}
use Rattle.c_statements.proofs.fault.lasting.Goals as goal

pub returns-in-NoMemory-clause-ok : goal.returns-in-NoMemory-clause-ok
returns-in-NoMemory-clause-ok t c = tt

pub returns-in-NoMemory-clause-err : goal.returns-in-NoMemory-clause-err
returns-in-NoMemory-clause-err t c = refl
