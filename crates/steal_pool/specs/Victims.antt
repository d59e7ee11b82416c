-- What a clause says of a victim.
use Rattle.std.specs.Prelude.{◌≡◌, ◌<◌, ℕ, List, [], ◌∷◌, Some, slice_get, slice_set}
use Rattle.crossbeam_deque.specs.Handles.{IsPassOf, stealer_deque, stealer_flavor}
use Rattle.steal_pool.specs.declared.view.View.{View}
use Rattle.steal_pool.specs.declared.victim.Victim.{Victim}
use Rattle.steal_pool.specs.Rule.{after_taking}

-- its pass is one of the stealer's deque, which is first in, first out, and it has no other part
abbrev pub IsVictim : {K : Type 0} → Victim K → Type 0
IsVictim l =
    IsPassOf (stealer_deque l.stealer) l.pass × (stealer_flavor l.stealer ≡ 0) × (l ≡ record { stealer = l.stealer; pass = l.pass })

-- the task joined what one of the passes took, each deque before that one was found empty, and nothing else changed
abbrev pub TookOne : (empty : View → Type 0) → ℕ → List View → List View → Type 0
TookOne empty i old new = (k : ℕ) × (v : View) × (slice_get old k ≡ Some v) × (new ≡ slice_set old k (after_taking v (i ∷ [])))
    × ((j : ℕ) (u : View) → j < k → slice_get old j ≡ Some u → empty u)
