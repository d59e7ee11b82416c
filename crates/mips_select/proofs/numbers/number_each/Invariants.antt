use Rattle.std.proofs.Common.{◌≡◌, ◌+◌, ◌++◌, drop}
use Rattle.mips_select.specs.Whole.{functions_size, numbers_from}
use Rattle.mips_select.proofs.numbers.number_each.Given as goal

abbrev pub invariant-loop-i : goal.invariant-loop-i
invariant-loop-i l =
    (l.k + functions_size (drop l.i l.functions) ≡ 2 + functions_size l.functions)
    × (l.numbers.items ++ numbers_from l.k (drop l.i l.functions) ≡ numbers_from 2 l.functions)
