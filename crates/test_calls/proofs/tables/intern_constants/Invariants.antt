use Rattle.term_table.specs.Passes.{IsOf}
use Rattle.test_calls.proofs.tables.intern_constants.Given as goal

abbrev pub invariant-loop-i : goal.invariant-loop-i
invariant-loop-i l = IsOf l.table l.pass
