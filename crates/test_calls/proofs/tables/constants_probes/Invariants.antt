use Rattle.term_table.specs.Passes.{IsOf}
use Rattle.test_calls.proofs.tables.constants_probes.Given as goal

abbrev pub invariant-loop-n : goal.invariant-loop-n
invariant-loop-n g l = IsOf l.table l.pass
