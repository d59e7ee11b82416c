-- Functions one after another, as the blocks of a unit.
use Rattle.std.specs.Prelude.{◌≡◌, ℕ, ◌+◌, ◌<◌, ◌≤◌, List, [], ◌∷◌, ◌++◌, length, Some, slice_get, replicate}
use Rattle.mblock.specs.declared.exit.Exit.{Exit}
use Rattle.mblock.specs.declared.exit.Exit.TheVariants.{Goto, BranchPair, BranchZero, Call, Out}
use Rattle.mblock.specs.Parts.{BlockParts}
use Rattle.mblock.specs.Units.{AreLinked, AreOwners}

abbrev pub blocks_of : List (List BlockParts) → List BlockParts
blocks_of [] = []
blocks_of (f ∷ fs) = f ++ blocks_of fs

-- the first block of the function of each block, the first block of all having number k
abbrev pub owners_of : ℕ → List (List BlockParts) → List ℕ
owners_of k [] = []
owners_of k (f ∷ fs) = replicate (length f) k ++ owners_of (k + length f) fs

-- one of the n blocks from k on
abbrev pub IsFrom : (k n : ℕ) → ℕ → Type 0
IsFrom k n t = (k ≤ t) × (t < k + n)

-- the exit goes to blocks below a bound, a branch to one of the n blocks from k on
abbrev pub GoesWithin : (bound k n : ℕ) → Exit → Type 0
GoesWithin bound k n (Goto t) = t < bound
GoesWithin bound k n (BranchPair test a b t e) = IsFrom k n t × IsFrom k n e
GoesWithin bound k n (BranchZero test a t e) = IsFrom k n t × IsFrom k n e
GoesWithin bound k n (Call f next) = (f < bound) × (next < bound)
GoesWithin bound k n (Out next) = next < bound
GoesWithin bound k n _ = Unit {0}

pub record IsFunctionAt (bound k : ℕ) (f : List BlockParts) : Type 0 where
  pub by : (i : ℕ) (b : BlockParts) → slice_get f i ≡ Some b → GoesWithin bound k (length f) b.exit

abbrev pub AreFunctions : (bound k : ℕ) → List (List BlockParts) → Type 0
AreFunctions bound k [] = Unit {0}
AreFunctions bound k (f ∷ fs) = IsFunctionAt bound k f × AreFunctions bound (k + length f) fs

-- functions whose branches stay inside them make a unit's blocks and owners
abbrev pub EachListOfFunctionsIsOwned : Type 0
EachListOfFunctionsIsOwned = (fs : List (List BlockParts)) → AreFunctions (length (blocks_of fs)) 0 fs
    → AreLinked (blocks_of fs) × AreOwners (blocks_of fs) (owners_of 0 fs)
