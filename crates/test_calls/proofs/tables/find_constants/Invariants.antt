use Rattle.term_table.specs.Passes.{IsOf}
use Rattle.test_calls.proofs.tables.find_constants.Given as goal

abbrev pub invariant-loop-i : goal.invariant-loop-i
invariant-loop-i l = IsOf l.table l.last × IsOf l.table l.other
