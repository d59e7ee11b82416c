use Rattle.term_table.specs.Passes.{IsOf}
use Rattle.sym_exec.specs.MipsTerms.{HasSeen}
use Rattle.test_calls.proofs.tables.sums_probes.Given as goal

abbrev pub invariant-loop-m : goal.invariant-loop-m
invariant-loop-m l = IsOf l.table l.pass × HasSeen l.pass l.left
