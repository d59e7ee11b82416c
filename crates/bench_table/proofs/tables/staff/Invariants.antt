use Rattle.std.proofs.Common.{◌*◌, ◌≤◌, All}
use Rattle.std.specs.Vec.Iter.{into_iter_items}
use Rattle.term_table.specs.Passes.{IsOf}
use Rattle.bench_table.specs.Ready.{IsReady}
use Rattle.bench_table.proofs.tables.staff.Given as goal

abbrev pub invariant-loop-pass : goal.invariant-loop-pass
invariant-loop-pass l = All (IsOf l.table) (into_iter_items l.pass-iterator) × All (IsReady l.table) l.workers.items × (l.terms ≤ 1024 * 1024)
