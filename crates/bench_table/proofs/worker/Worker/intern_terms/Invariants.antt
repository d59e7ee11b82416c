use Rattle.std.proofs.Common.{◌≡◌}
use Rattle.bench_table.specs.Ready.{IsReady}
use Rattle.bench_table.proofs.worker.Worker.intern_terms.Given as goal

abbrev pub invariant-loop-i : goal.invariant-loop-i
invariant-loop-i l = IsReady l.table l.self × (l.i-end ≡ l.self.part.until)
