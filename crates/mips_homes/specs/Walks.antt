-- How a walk over a function's blocks learns which pseudo-registers a block reads before it writes them.
use Rattle.std.specs.Prelude.{◌≡◌, ℕ, ◌≤◌, Bool, false, not, ◌&&◌, ◌||◌, List, nat_eq, slice_index, slice_index_or}
use Rattle.mips_homes.specs.HomedRun.{is_in}
use Rattle.rtl.specs.declared.block.RBlock.{RBlock}
use Rattle.mips_homes.specs.Preferences.{blocks_reach}
use Rattle.mips_homes.specs.Locals.{is_local}
use Rattle.mips_homes.specs.declared.locals.Sight.{Sight}

-- what was seen of a pseudo-register
abbrev pub sight_at : List Sight → ℕ → Sight
sight_at sights x = slice_index_or sights x (record { read_first = false; written_in = 0 })

abbrev pub is_read_first : List Sight → ℕ → Bool
is_read_first sights x = (sight_at sights x).read_first

-- block k hasn't written it so far
abbrev pub is_unwritten : (k : ℕ) → List Sight → ℕ → Bool
is_unwritten k sights x = not (nat_eq (sight_at sights x).written_in k)

-- no block after k has written anything
abbrev pub IsUpTo : (k : ℕ) → List Sight → Type 0
IsUpTo k sights = (x : ℕ) → (sight_at sights x).written_in ≤ k

-- block k goes on by reading these and writing those
pub record Sees (k : ℕ) (old new : List Sight) (reads writes : List ℕ) : Type 0 where
  pub first : (x : ℕ) → is_read_first new x ≡ (is_read_first old x || (is_unwritten k old x && is_in reads x))
  pub unwritten : (x : ℕ) → is_unwritten k new x ≡ (is_unwritten k old x && not (is_in writes x))
  pub late : IsUpTo k old → IsUpTo k new

-- what was seen of these blocks tells which pseudo-registers are local to them
abbrev pub TellsLocals : List Sight → List RBlock → Type 0
TellsLocals sights bs = (x : ℕ) → not (is_read_first sights x) ≡ is_local bs x

-- and of each how many arguments there are up to the last that it is
abbrev pub TellsReaches : List ℕ → List RBlock → Type 0
TellsReaches reaches bs = (x : ℕ) → slice_index reaches x ≡ blocks_reach bs x
