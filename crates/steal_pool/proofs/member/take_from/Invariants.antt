use Rattle.std.proofs.Common.{◌≡◌, ◌<◌, ℕ, All, map, get_or, length}
use Rattle.crossbeam_deque.specs.Handles.{view, stealer_deque}
use Rattle.steal_pool.specs.Victims.{IsVictim}
use Rattle.steal_pool.proofs.member.take_from.Given as goal

abbrev pub invariant-loop-k : goal.invariant-loop-k
invariant-loop-k g l =
    All IsVictim l.victims.items
    × (length l.victims.items ≡ length l.initial.victims.items)
    × (map (λ x. stealer_deque x.stealer) l.victims.items ≡ map (λ x. stealer_deque x.stealer) l.initial.victims.items)
    × (map (λ x. view x.pass) l.victims.items ≡ map (λ x. view x.pass) l.initial.victims.items)
    × ((j : ℕ) (d : _) → j < l.k → g.N.Note.empty (view (get_or l.initial.victims.items j d).pass))
