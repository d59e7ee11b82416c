-- The rule of a deque of tasks.
use Rattle.std.specs.Prelude.{◌≡◌, ℕ, ◌+◌, true, false, List, [], ◌∷◌, ◌++◌, slice_set, eqb}
use Rattle.std.specs.List.{sum_by, count_by}
use mathlib.Core.Option.{some}
use lib.ListN.{get_elem?}
use Rattle.steal_pool.specs.declared.view.View.{View}

-- how often x stands in the list
abbrev pub times : ℕ → List ℕ → ℕ
times x xs = count_by (λ y. eqb y x) xs

-- at the start: the pass that puts the tasks
abbrev pub maker : View
maker = record { puts = true; put = []; taken = [] }

-- the pass of another member, made of one that knows what was put
abbrev pub shared : View → View
shared v = record { puts = false; put = v.put; taken = [] }

abbrev pub after_putting : View → List ℕ → View
after_putting v xs = record { puts = v.puts; put = v.put ++ xs; taken = v.taken }

abbrev pub after_taking : View → List ℕ → View
after_taking v xs = record { puts = v.puts; put = v.put; taken = v.taken ++ xs }

-- What was put is what is left and what the passes took, each task as often. One pass alone may put, and it knows what was put.
-- Each pass knows what was put first
abbrev pub Dealt : List ℕ → List View → Type 0
Dealt items views =
    (put : List ℕ)
    × ((x : ℕ) → times x put ≡ times x items + sum_by (λ (v : View). times x v.taken) views)
    × ((port : ℕ) (v : View) → get_elem? views port ≡ some v → v.puts ≡ true → (port ≡ 0) × (v.put ≡ put))
    × ((port : ℕ) (v : View) → get_elem? views port ≡ some v → (rest : List ℕ) × (v.put ++ rest ≡ put))

module _ (real : List ℕ → List View → Type 0) where
  -- the fact is carried on when the pass that may put puts tasks, when one takes some, and when a pass is made of another
  abbrev pub KeptByPutting : Type 0
  KeptByPutting = (xs items : List ℕ) (views : List View) (port : ℕ) (v : View) → real items views → get_elem? views port ≡ some v
      → v.puts ≡ true → real (items ++ xs) (slice_set views port (after_putting v xs))

  abbrev pub KeptByTaking : Type 0
  KeptByTaking = (xs items : List ℕ) (views : List View) (port : ℕ) (v : View) → real (xs ++ items) views → get_elem? views port ≡ some v
      → real items (slice_set views port (after_taking v xs))

  abbrev pub KeptBySharing : Type 0
  KeptBySharing = (items : List ℕ) (views : List View) (port : ℕ) (v : View) → real items views → get_elem? views port ≡ some v
      → real items (views ++ shared v ∷ [])

  -- what is noted of a view is true whenever the deque has that view and no task
  abbrev pub Notes : (View → Type 0) → Type 0
  Notes empty = (views : List View) (port : ℕ) (v : View) → real [] views → get_elem? views port ≡ some v → empty v

-- of a view that may put: it is one of views that took, together, each task that it put as often as it put it
abbrev pub all_taken : View → Type 0
all_taken v = v.puts ≡ true → (views : List View) × (port : ℕ) × (get_elem? views port ≡ some v)
    × ((x : ℕ) → times x v.put ≡ sum_by (λ (u : View). times x u.taken) views)
