use Rattle.std.proofs.Common.{[], List, drop}
use Rattle.mips_homes.specs.Walks.{Sees}
use Rattle.mips_homes.specs.declared.locals.Sight.{Sight}
use Rattle.mips_homes.proofs.locals.see_all.Given as goal

abbrev pub invariant-loop-x : goal.invariant-loop-x
invariant-loop-x l = (end : List Sight) → Sees l.k l.sights.items end (drop l.x-index l.xs) [] → Sees l.k l.fn.sights.items end l.xs []
