-- What callers ask of a fact and a note is met by the rule of a deque itself.
use Rattle.std.specs.Prelude.{◌≢◌, ℕ, ◌<◌, [], ◌∷◌}
use Rattle.steal_pool.specs.declared.view.View.{View}
use Rattle.steal_pool.specs.Shares.{IsShare}
use Rattle.steal_pool.specs.Rule.{Dealt, maker, KeptByPutting, KeptByTaking, KeptBySharing, Notes, all_taken}

-- an empty deque begins with it, each step carries it on, and an empty deque's passes took all that was put
pub record EachDequeKeepsItsTasks : Type 0 where
  pub begins : Dealt [] (maker ∷ [])
  pub puts : KeptByPutting Dealt
  pub takes : KeptByTaking Dealt
  pub shares : KeptBySharing Dealt
  pub empty : Notes Dealt all_taken

-- passes that know the shares of two places, one of them with a task, have two views
abbrev pub ViewsTellPlaces : Type 0
ViewsTellPlaces = (count n i j : ℕ) (v u : View) → i < count → i < n → i ≢ j → IsShare i count n v.put → IsShare j count n u.put → v ≢ u
