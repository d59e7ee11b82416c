use Rattle.std.proofs.Common.{take}
use Rattle.term_table.specs.Passes.{IsOf}
use Rattle.example_terms.specs.Standing.{StandFor}
use Rattle.example_terms.proofs.symbolic.run.Given as goal

abbrev pub invariant-loop-i : goal.invariant-loop-i
invariant-loop-i l = IsOf l.table l.pass × StandFor l.pass l.values.items (take l.i l.code)
