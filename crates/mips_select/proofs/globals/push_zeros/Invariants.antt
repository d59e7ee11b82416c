use Rattle.std.proofs.Common.{◌≡◌, ◌++◌, ◌-◌}
use Rattle.mips_select.specs.Data.{zeros}
use Rattle.mips_select.proofs.globals.push_zeros.Given as goal

abbrev pub invariant-loop-i : goal.invariant-loop-i
invariant-loop-i l = l.bytes.items ++ zeros (l.n - l._i) ≡ l.fn.bytes.items ++ zeros l.n
