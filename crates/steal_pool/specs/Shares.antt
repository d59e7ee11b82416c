-- Which tasks a deque begins with.
use Rattle.std.specs.Prelude.{◌≡◌, ℕ, ◌%◌, ◌<◌, ◌&&◌, cond, eqb, ltb, List, [], true, false, Some, slice_get}
use Rattle.steal_pool.specs.declared.view.View.{View}
use Rattle.steal_pool.specs.Rule.{times}

-- the tasks below n whose number leaves w when it is divided by count, each once
abbrev pub IsShare : ℕ → ℕ → ℕ → List ℕ → Type 0
IsShare w count n tasks = (x : ℕ) → times x tasks ≡ cond (ltb x n && eqb (x % count) w) 1 0

abbrev pub IsAscending : List ℕ → Type 0
IsAscending xs = (j k x y : ℕ) → j < k → slice_get xs j ≡ Some x → slice_get xs k ≡ Some y → x < y

-- the pass of another member: it may not put, it took nothing yet, and it knows that this was put
abbrev pub Visits : ℕ → ℕ → ℕ → View → Type 0
Visits w count n v = (v.puts ≡ false) × IsShare w count n v.put × (v.taken ≡ []) × IsAscending v.put

-- nothing has been taken yet, and this is what was put, the least task first
abbrev pub Begins : ℕ → ℕ → ℕ → View → Type 0
Begins w count n v = (v.puts ≡ true) × IsShare w count n v.put × (v.taken ≡ []) × IsAscending v.put
