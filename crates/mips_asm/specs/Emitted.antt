-- What the emitter writes.
use Rattle.std.specs.Prelude.{◌≤◌, ◌≡◌, Some, slice_get, ℕ, ◌+◌, List, [], ◌∷◌, length, slice_index, FitsSigned}
use Rattle.std.specs.List.{AllByRecursion}
use Rattle.mips_isa.specs.declared.inst.Inst.{Inst}
use Rattle.mips_isa.specs.Ranges.{IsInst}
use Rattle.mblock.specs.declared.exit.Exit.{Exit}
use Rattle.mblock.specs.declared.exit.Exit.TheVariants.{BranchPair, BranchZero}
use Rattle.mblock.specs.declared.limits.TheConstants.{UNIT_BLOCKS}
use Rattle.mblock.specs.Parts.{OrderParts}
use Rattle.mblock.specs.Units.{GoesBelow}
use Rattle.std.specs.Int.{w16}
use Rattle.mips_asm.specs.declared.limits.TheConstants.{CODE_WORDS}
use Rattle.mips_asm.specs.Layout.{size, place, branch_offset}
use Rattle.mips_asm.specs.Functions.{AreFunctions}
use Rattle.mips_asm.specs.Limits.{FunctionsFit}

-- the places of orders, the first one here
abbrev pub places_from : ℕ → List OrderParts → List ℕ
places_from here [] = []
places_from here (o ∷ rest) = here ∷ places_from (here + size o) rest

abbrev pub start_of : List ℕ → ℕ → ℕ
start_of places t = slice_index places t

abbrev pub Fit : List Inst → Type 0
Fit is = AllByRecursion IsInst is

abbrev pub AllThere : List OrderParts → Type 0
AllThere orders = (k : ℕ) (o : OrderParts) → slice_get orders k ≡ Some o → GoesBelow (length orders) o.exit

-- the place that a branch takes is near enough for its 16 bits
abbrev pub IsNear : (ℕ → ℕ) → ℕ → Exit → Type 0
IsNear start here (BranchPair test a b t e) = FitsSigned w16 (branch_offset here (start t))
IsNear start here (BranchZero test a t e) = FitsSigned w16 (branch_offset here (start t))
IsNear start here _ = Unit {0}

-- and so is that of each order
abbrev pub AllNear : (ℕ → ℕ) → List OrderParts → Type 0
AllNear start orders = (k : ℕ) (o : OrderParts) → slice_get orders k ≡ Some o → IsNear start (place orders k + length o.insts) o.exit

-- a branch takes a block of its function
abbrev pub IsOwn : (ℕ → ℕ) → ℕ → Exit → Type 0
IsOwn owner k (BranchPair test a b t e) = owner t ≡ owner k
IsOwn owner k (BranchZero test a t e) = owner t ≡ owner k
IsOwn owner k _ = Unit {0}

-- a unit's orders: functions one after the other, targets that are there, branches within their function
pub record AreUnits (owner : ℕ → ℕ) (orders : List OrderParts) : Type 0 where
  pub count : length orders ≤ UNIT_BLOCKS
  pub functions : AreFunctions (length orders) owner
  pub there : AllThere orders
  pub own : (k : ℕ) (o : OrderParts) → slice_get orders k ≡ Some o → IsOwn owner k o.exit

-- what the assembler's limits allow
abbrev pub IsWithin : (ℕ → ℕ) → List OrderParts → Type 0
IsWithin owner orders = FunctionsFit owner orders × (place orders (length orders) ≤ CODE_WORDS)
