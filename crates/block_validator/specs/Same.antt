-- When an order has its block's trees, and what it then promises.
use Rattle.std.specs.Prelude.{◌≡◌, ℕ, ◌<◌, Contains, slice_index}
use Rattle.mblock.specs.Parts.{BlockParts, OrderParts}
use Rattle.mblock.specs.Clean.{FitsSlot, IsClean}
use Rattle.mblock.specs.Orders.{Means}
use Rattle.sym_exec.specs.declared.state.Guard.{Guard}
use Rattle.sym_exec.specs.declared.state.SymState.{SymState}
use Rattle.sym_exec.specs.Symbolic.{GuardTree, CodeTrees, block_trees, order_trees}
use Rattle.block_validator.specs.declared.place.Place.{Place}
use Rattle.block_validator.specs.declared.place.Place.TheVariants as places

-- the two sides have equal trees in a place; the second's guards are among the first's
abbrev pub SameAt : Place → CodeTrees → CodeTrees → Type 0
SameAt (places.Register r) x y = x.trees.regs r ≡ y.trees.regs r
SameAt places.Hi x y = x.trees.hi ≡ y.trees.hi
SameAt places.Lo x y = x.trees.lo ≡ y.trees.lo
SameAt places.Memory x y = x.trees.memory ≡ y.trees.memory
SameAt places.Exit x y = (x.shape ≡ y.shape) × (x.operands ≡ y.operands)
SameAt places.Guards x y = (g : GuardTree) → Contains y.trees.guards g → Contains x.trees.guards g

-- the order in which places are compared
abbrev pub place_rank : Place → ℕ
place_rank (places.Register r) = r
place_rank places.Hi = 32
place_rank places.Lo = 33
place_rank places.Memory = 34
place_rank places.Exit = 35
place_rank places.Guards = 36

-- register 0 is no place. In specs a variable ranges over every number
abbrev pub IsPlace : Place → Type 0
IsPlace (places.Register r) = (0 < r) × (r < 32)
IsPlace _ = Unit {0}

-- equal trees in every place
abbrev pub SameTrees : CodeTrees → CodeTrees → Type 0
SameTrees x y = (q : Place) → IsPlace q → SameAt q x y

-- the place is the first in which the two sides differ
pub record DiffersFirst (x y : CodeTrees) (p : Place) : Type 0 where
  pub place : IsPlace p
  pub differs : SameAt p x y → ⊥
  pub before : (q : Place) → IsPlace q → place_rank q < place_rank p → SameAt q x y

abbrev pub EachCheckedOrderMeansItsBlock : Type 0
EachCheckedOrderMeansItsBlock = (b : BlockParts) (o : OrderParts) → FitsSlot o → IsClean o → SameTrees (block_trees b) (order_trees o)
    → Means b o

-- a block beside a checked order of it
pub record CheckedParts : Type 0 where
  pub block : BlockParts
  pub order : OrderParts

pub record IsChecked (c : CheckedParts) : Type 0 where
  pub clean : IsClean c.order
  pub fits : FitsSlot c.order
  pub same : SameTrees (block_trees c.block) (order_trees c.order)

-- for the comparison by tickets
abbrev pub SameTicketsAt : Place → SymState → SymState → Type 0
SameTicketsAt (places.Register r) a b = slice_index a.places.regs r ≡ slice_index b.places.regs r
SameTicketsAt places.Hi a b = a.places.hi ≡ b.places.hi
SameTicketsAt places.Lo a b = a.places.lo ≡ b.places.lo
SameTicketsAt places.Memory a b = a.places.memory ≡ b.places.memory
SameTicketsAt places.Exit a b = a.exit ≡ b.exit
SameTicketsAt places.Guards a b = (g : Guard) → Contains b.guards.items g → Contains a.guards.items g

pub record TicketsDifferFirst (a b : SymState) (p : Place) : Type 0 where
  pub place : IsPlace p
  pub differs : SameTicketsAt p a b → ⊥
  pub before : (q : Place) → IsPlace q → place_rank q < place_rank p → SameTicketsAt q a b
