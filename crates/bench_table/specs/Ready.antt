-- What a worker needs: its pass is the table's and has seen each leaf. There are enough leaves for the terms, and its part is of them.
use Rattle.std.specs.Prelude.{◌≡◌, ◌*◌, ◌≤◌, length, All}
use Rattle.term_table.specs.Passes.{TableState, IsOf}
use Rattle.term_table.specs.Terms.{HasSeenTerm}
use Rattle.bench_table.specs.Labels.{label_coding}
use Rattle.bench_table.specs.declared.worker.Worker.{Worker}

pub record IsReady (t : TableState) (w : Worker) : Type 0 where
  pub pass : IsOf t w.pass
  pub count : length w.leaves.items ≡ 1024
  pub terms : w.terms ≤ 1024 * 1024
  pub last : w.part.until ≤ w.terms
  pub seen : All (HasSeenTerm label_coding w.pass) w.leaves.items
