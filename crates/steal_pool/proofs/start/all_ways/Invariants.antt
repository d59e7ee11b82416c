use Rattle.std.proofs.Common.{◌≡◌, ◌+◌, length, map}
use Rattle.crossbeam_deque.specs.Handles.{worker_deque}
use Rattle.steal_pool.specs.Starts.{AreFilled}
use Rattle.steal_pool.proofs.Pairing.{AreWays}
use Rattle.steal_pool.proofs.start.all_ways.Given as goal

abbrev pub invariant-loop-w : goal.invariant-loop-w
invariant-loop-w g l =
    (length l.workers.items ≡ length l.initial.workers.items)
    × AreFilled (length l.initial.workers.items) l.n l.workers.items
    × (length l.ways.items + l.w ≡ length l.initial.workers.items)
    × AreWays (length l.initial.workers.items) l.n (map (λ d. worker_deque d) l.workers.items) l.ways.items
