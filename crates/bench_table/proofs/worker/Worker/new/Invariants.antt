use Rattle.std.proofs.Common.{◌≡◌, All, length}
use Rattle.term_table.specs.Passes.{IsOf}
use Rattle.term_table.specs.Terms.{HasSeenTerm}
use Rattle.bench_table.specs.Labels.{label_coding}
use Rattle.bench_table.proofs.worker.Worker.new.Given as goal

abbrev pub invariant-loop-n : goal.invariant-loop-n
invariant-loop-n l = IsOf l.table l.pass × (length l.leaves.items ≡ l.n) × All (HasSeenTerm label_coding l.pass) l.leaves.items
