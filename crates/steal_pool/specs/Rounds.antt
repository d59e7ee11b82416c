-- The turn of a member: each deque of the pool, its own first.
use Rattle.std.specs.Prelude.{◌≡◌, ℕ, ◌+◌, ◌%◌, ◌<◌, List, Some, length, slice_get}
use Rattle.std.specs.declared.alloc.Global.{Global}
use Rattle.atomic_blocks.specs.Lent.{RowsId}
use Rattle.steal_pool.specs.declared.view.View.{View}
use Rattle.steal_pool.specs.declared.member.Member.{Member}
use Rattle.steal_pool.specs.Shares.{IsShare}
use Rattle.steal_pool.specs.Members.{deques_of, views_of}

module _ {K : Type 0} where
  -- The member takes from all of these deques and no others, first from the one at place w. Each of its passes knows that
  -- the share of its place was put there. The share of a place below n has a task, so no other pass knows the same
  pub record GoesRound (n : ℕ) (deques : List (RowsId × Global)) (w : ℕ) (m : Member K) : Type 0 where
    pub place : w < length deques
    pub all : length (deques_of m) ≡ length deques
    pub turn : (k : ℕ) → k < length deques → slice_get (deques_of m) k ≡ slice_get deques ((w + k) % length deques)
    pub shares : (k : ℕ) (v : View) → slice_get (views_of m) k ≡ Some v → IsShare ((w + k) % length deques) (length deques) n v.put

  -- the member at place w has a view of the deque of each place. The view knows the share of that place, and it is noted of it that the
  -- deque was empty
  abbrev pub FoundEmpty : (View → Type 0) → ℕ → List (RowsId × Global) → ℕ → Member K → Type 0
  FoundEmpty empty n deques w m =
      (j : ℕ) (q : RowsId × Global) → slice_get deques j ≡ Some q
      → (k : ℕ) × (v : View) × ((w + k) % length deques ≡ j) × (slice_get (deques_of m) k ≡ Some q)
      × (slice_get (views_of m) k ≡ Some v) × IsShare j (length deques) n v.put × empty v
