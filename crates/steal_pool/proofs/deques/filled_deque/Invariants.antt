use Rattle.std.proofs.Common.{◌≡◌, ◌%◌}
use Rattle.crossbeam_deque.specs.Handles.{worker_view, worker_flavor}
use Rattle.steal_pool.proofs.Shares.{Filling}
use Rattle.steal_pool.proofs.deques.filled_deque.Given as goal

abbrev pub invariant-loop-i : goal.invariant-loop-i
invariant-loop-i g l = (worker_flavor l.own ≡ 0) × Filling l.w l.count l.i (worker_view l.own) × (l.remainder ≡ l.i % l.count)
