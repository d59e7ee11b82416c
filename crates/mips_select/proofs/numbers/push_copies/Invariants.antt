use Rattle.std.proofs.Common.{◌≡◌, ◌++◌}
use Rattle.std.specs.Prelude.{replicate}
use Rattle.mips_select.proofs.numbers.push_copies.Given as goal

abbrev pub invariant-loop : goal.invariant-loop
invariant-loop l = l.table.items ≡ l.fn.table.items ++ replicate l.counter l.n
