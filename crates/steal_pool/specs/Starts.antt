-- The members of a pool before any of them takes a task.
use Rattle.std.specs.Prelude.{◌≡◌, ◌≢◌, ℕ, ◌+◌, ◌%◌, ◌<◌, List, All, Some, length, map, slice_get}
use mathlib.Core.Option.{some}
use lib.ListN.{get_elem?}
use Rattle.crossbeam_deque.specs.Handles.{view, worker_view, worker_deque, worker_flavor, stealer_deque}
use Rattle.crossbeam_deque.specs.declared.handles.Worker.{Worker}
use Rattle.std.specs.declared.alloc.Global.{Global}
use Rattle.atomic_blocks.specs.Lent.{RowsId}
use Rattle.steal_pool.specs.declared.view.View.{View}
use Rattle.steal_pool.specs.declared.rule.Shared.{Shared}
use Rattle.steal_pool.specs.declared.victim.Victim.{Victim}
use Rattle.steal_pool.specs.declared.member.Member.{Member}
use Rattle.steal_pool.specs.Rule.{Dealt}
use Rattle.steal_pool.specs.Victims.{IsVictim}
use Rattle.steal_pool.specs.Members.{IsMember}
use Rattle.steal_pool.specs.Shares.{Begins, Visits}

-- no deque has both of these views
abbrev pub Apart : View → View → Type 0
Apart v u = (items : List ℕ) (views : List View) (p q : ℕ) → Dealt items views → get_elem? views p ≡ some v → get_elem? views q ≡ some u → ⊥

module _ {K : Type 0} where
  -- the deque of place w, before a member has it
  abbrev pub IsFilled : ℕ → ℕ → ℕ → Worker ℕ Global View (Shared K) → Type 0
  IsFilled count n w d = (worker_flavor d ≡ 0) × Begins w count n (worker_view d)

  abbrev pub AreFilled : ℕ → ℕ → List (Worker ℕ Global View (Shared K)) → Type 0
  AreFilled count n ds = (k : ℕ) (d : Worker ℕ Global View (Shared K)) → slice_get ds k ≡ Some d → IsFilled count n k d

  abbrev pub own_deques : List (Member K) → List (RowsId × Global)
  own_deques ms = map (λ m. worker_deque m.own) ms

  -- ways from place w to the deques of all other places, the next place first. Each knows the share of its deque's place
  pub record AreVictims (n : ℕ) (deques : List (RowsId × Global)) (w : ℕ) (ways : List (Victim K)) : Type 0 where
    pub victims : All IsVictim ways
    pub visits : (k : ℕ) (l : Victim K) → slice_get ways k ≡ Some l → Visits ((w + 1 + k) % length deques) (length deques) n (view l.pass)
    pub others : length ways + 1 ≡ length deques
    pub turn : (k : ℕ) (l : Victim K) → slice_get ways k ≡ Some l
        → slice_get deques ((w + 1 + k) % length deques) ≡ Some (stealer_deque l.stealer)

  -- the member at place w of count, which are to do n tasks
  pub record StartsAt (count n : ℕ) (deques : List (RowsId × Global)) (w : ℕ) (m : Member K) : Type 0 where
    pub member : IsMember m
    pub share : Begins w count n (worker_view m.own)
    pub ways : AreVictims n deques w m.others.items

  pub record Start (count n : ℕ) (ms : List (Member K)) : Type 0 where
    pub len : length ms ≡ count
    pub each : (w : ℕ) (m : Member K) → slice_get ms w ≡ Some m → StartsAt count n (own_deques ms) w m
    -- a deque with a task is none of the others
    pub apart : (i j : ℕ) (a b : Member K) → slice_get ms i ≡ Some a → slice_get ms j ≡ Some b → i < n → i ≢ j
        → Apart (worker_view a.own) (worker_view b.own)
