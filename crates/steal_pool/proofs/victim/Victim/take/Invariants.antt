use Rattle.std.proofs.Common.{◌≡◌}
use Rattle.crossbeam_deque.specs.Handles.{view, stealer_deque}
use Rattle.steal_pool.specs.Victims.{IsVictim}
use Rattle.steal_pool.proofs.victim.Victim.take.Given as goal

abbrev pub invariant-loop : goal.invariant-loop
invariant-loop g l = IsVictim l.self × (stealer_deque l.self.stealer ≡ stealer_deque l.initial.self.stealer) × (view l.self.pass ≡ view l.initial.self.pass)
