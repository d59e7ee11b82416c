use Rattle.std.proofs.Common.{◌≡◌, ◌≤◌, ◌+◌, ◌++◌, drop, map}
use Rattle.std.specs.declared.alloc.Global.{Global}
use Rattle.std.specs.declared.vec.Vec.{Vec}
use Rattle.mips_select.specs.declared.heads.Naming.{Naming}
use Rattle.mips_select.specs.Heads.{namings_of}
use Rattle.mblock.specs.declared.limits.TheConstants.{UNIT_BLOCKS}
use Rattle.mips_select.specs.Whole.{functions_size, entries_from, owners_from, owners_for}
use Rattle.mips_select.proofs.numbers.number_functions.Given as goal

abbrev pub invariant-loop-func : goal.invariant-loop-func
invariant-loop-func l =
    (l.k ≤ UNIT_BLOCKS)
    × (l.k + functions_size (drop l.func-index l.functions) ≡ 2 + functions_size l.functions)
    × (map (λ (t : Vec Naming Global). t.items) l.numbers.namings.items ++ map namings_of (drop l.func-index l.functions) ≡ map namings_of l.functions)
    × (l.numbers.entries.items ++ entries_from l.k (drop l.func-index l.functions) ≡ entries_from 2 l.functions)
    × (l.numbers.owners.items ++ owners_from l.k (drop l.func-index l.functions) ≡ owners_for l.functions)
