-- Search finds this too, but takes long to find that another stop isn't told.
use Rattle.std.proofs.Common.{refl}
use Rattle.c_statements.proofs.fault.both.Goals as goal

pub returns-in-Ok-Err : goal.returns-in-Ok-Err
returns-in-Ok-Err t c = rw (c.in-Ok-Err.is-0, c.in-Ok-Err.is-1) refl
