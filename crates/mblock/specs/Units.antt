-- Units of blocks: which lists of blocks, of owners and of bytes of data are one.
use Rattle.std.specs.Prelude.{◌≡◌, ◌≢◌, ℕ, zero, suc, ◌<◌, ◌≤◌, ◌^◌, List, length, All, Some, slice_get}
use Rattle.mblock.specs.declared.exit.Exit.{Exit}
use Rattle.mblock.specs.declared.exit.Exit.TheVariants.{Goto, BranchPair, BranchZero, Call, Return, Out, Halt}
use Rattle.mblock.specs.declared.limits.TheConstants.{UNIT_BLOCKS, UNIT_BYTES}
use Rattle.mblock.specs.Parts.{BlockParts}

-- `owner` has the first block of each block's function, `globals` the bytes of data
pub record UnitParts : Type 0 where
  pub blocks : List BlockParts
  pub owner : List ℕ
  pub globals : List ℕ

abbrev pub unit_parts : List BlockParts → List ℕ → List ℕ → UnitParts
unit_parts blocks owner globals = record { blocks = blocks; owner = owner; globals = globals }

-- every block that the exit names is below n
abbrev pub GoesBelow : ℕ → Exit → Type 0
GoesBelow n (Goto t) = t < n
GoesBelow n (BranchPair test a b t e) = (t < n) × (e < n)
GoesBelow n (BranchZero test a t e) = (t < n) × (e < n)
GoesBelow n (Call f next) = (f < n) × (next < n)
GoesBelow n Return = Unit {0}
GoesBelow n (Out next) = next < n
GoesBelow n Halt = Unit {0}

-- a branch goes to blocks of this owner
abbrev pub BranchesWithin : List ℕ → ℕ → Exit → Type 0
BranchesWithin owner o (BranchPair test a b t e) = (slice_get owner t ≡ Some o) × (slice_get owner e ≡ Some o)
BranchesWithin owner o (BranchZero test a t e) = (slice_get owner t ≡ Some o) × (slice_get owner e ≡ Some o)
BranchesWithin owner o _ = Unit {0}

-- block i is the first of its function, or of the function of the block before it
abbrev pub Continues : List ℕ → ℕ → ℕ → Type 0
Continues owner zero o = o ≡ 0
Continues owner (suc i) o = o ≢ suc i → slice_get owner i ≡ Some o

-- every block that an exit names exists
pub record AreLinked (blocks : List BlockParts) : Type 0 where
  pub by : (i : ℕ) (b : BlockParts) → slice_get blocks i ≡ Some b → GoesBelow (length blocks) b.exit

-- an owner for each block; functions are contiguous, and branches stay inside them
pub record AreOwners (blocks : List BlockParts) (owner : List ℕ) : Type 0 where
  pub lengths : length owner ≡ length blocks
  pub continues : (i o : ℕ) → slice_get owner i ≡ Some o → Continues owner i o
  pub within : (i o : ℕ) (b : BlockParts) → slice_get blocks i ≡ Some b → slice_get owner i ≡ Some o → BranchesWithin owner o b.exit

pub record IsUnit (u : UnitParts) : Type 0 where
  pub some : 0 < length u.blocks
  pub few : length u.blocks ≤ UNIT_BLOCKS
  pub linked : AreLinked u.blocks
  pub owners : AreOwners u.blocks u.owner
  pub data_fits : length u.globals ≤ UNIT_BYTES
  pub data_bytes : All (λ b. b < 2 ^ 8) u.globals
