use Rattle.std.proofs.Common.{◌≡◌, length}
use Rattle.steal_pool.specs.Starts.{AreFilled}
use Rattle.steal_pool.proofs.start.filled_deques.Given as goal

abbrev pub invariant-loop-w : goal.invariant-loop-w
invariant-loop-w g l = (length l.workers.items ≡ l.w) × AreFilled l.count l.n l.workers.items
