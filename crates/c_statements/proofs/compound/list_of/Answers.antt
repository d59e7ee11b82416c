use Rattle.std.proofs.Common.{refl}
use Rattle.c_statements.proofs.compound.list_of.Goals as goal

pub returns : goal.returns
returns g c = rw (c.in_ok-push-2.ensures.items, c.in_ok-push.ensures.items, c.in_ok-all.ensures.items) refl
