use Rattle.std.proofs.Common.{◌≡◌, ◌++◌, List, [], drop}
use Rattle.rtl.specs.declared.block.RBlock.{RBlock}
use Rattle.mips_homes.specs.Locals.{is_local}
use Rattle.mips_homes.specs.Preferences.{preference}
use Rattle.mips_homes.specs.Places.{places_from}
use Rattle.mips_homes.specs.Walks.{TellsLocals, TellsReaches}
use Rattle.mips_homes.proofs.places.places_by.Given as goal

abbrev pub invariant-loop-x : goal.invariant-loop-x
invariant-loop-x l = (bs : List RBlock) → TellsLocals l.sights bs → TellsReaches l.reaches bs
    → l.out.items ++ places_from (is_local bs) (preference l.parameters bs) l.x l.taken.items (drop l.x l.homes)
    ≡ places_from (is_local bs) (preference l.parameters bs) 0 [] l.homes
