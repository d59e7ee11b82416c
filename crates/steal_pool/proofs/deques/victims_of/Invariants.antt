use Rattle.std.proofs.Common.{◌≡◌, ℕ, ◌+◌, ◌%◌, All, length, map, Some, slice_get}
use Rattle.crossbeam_deque.specs.Handles.{view, worker_deque, stealer_deque}
use Rattle.steal_pool.specs.Shares.{Visits}
use Rattle.steal_pool.specs.Victims.{IsVictim}
use Rattle.steal_pool.specs.Starts.{AreFilled}
use Rattle.steal_pool.proofs.deques.victims_of.Given as goal

abbrev pub invariant-loop-step : goal.invariant-loop-step
invariant-loop-step g l =
    (length l.victims.items + 1 ≡ l.step)
    × (length l.workers.items ≡ length l.initial.workers.items)
    × (map (λ d. worker_deque d) l.workers.items ≡ map (λ d. worker_deque d) l.initial.workers.items)
    × AreFilled (length l.initial.workers.items) l.n l.workers.items
    × All IsVictim l.victims.items
    × ((k : ℕ) (x : _) → slice_get l.victims.items k ≡ Some x
    → Visits ((l.w + 1 + k) % length l.initial.workers.items) (length l.initial.workers.items) l.n (view x.pass)
    × (slice_get (map (λ d. worker_deque d) l.initial.workers.items) ((l.w + 1 + k) % length l.initial.workers.items) ≡ Some (stealer_deque x.stealer)))
