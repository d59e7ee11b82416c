-- When an order means its block, and when orders are those of a unit's blocks.
use Rattle.std.specs.Prelude.{◌≡◌, ℕ, ◌<◌, ◌≤◌, ◌^◌, List, length, Some, slice_get, map}
use Rattle.mips_isa.specs.States.{State, IsWords}
use Rattle.mblock.specs.declared.limits.TheConstants.{BLOCK_INSTS}
use Rattle.mblock.specs.Parts.{BlockParts, OrderParts}
use Rattle.mblock.specs.Clean.{FitsSlot, IsClean}
use Rattle.mblock.specs.BlockMeaning.{Effect, exit_shape, block_effect}
use Rattle.mblock.specs.OrderMeaning.{order_effect}
use Rattle.mblock.specs.PlainOrders.{plain_order_of}

-- where the block isn't stuck, the order isn't and leaves the same registers, HI, LO, memory and exit
abbrev pub Means : BlockParts → OrderParts → Type 0
Means b o = (s : State) (link : ℕ) (r : Effect) → IsWords s → link < 2 ^ 32 → block_effect b s link ≡ Some r
    → order_effect o s link ≡ Some r

-- one order for each block, which means it and is left as it is
pub record AreOrders (blocks : List BlockParts) (orders : List OrderParts) : Type 0 where
  pub long : length orders ≡ length blocks
  pub short : (k : ℕ) (b : BlockParts) → slice_get blocks k ≡ Some b → length b.insts ≤ BLOCK_INSTS
  pub fits : (k : ℕ) (o : OrderParts) → slice_get orders k ≡ Some o → FitsSlot o
  pub exits : (k : ℕ) (b : BlockParts) (o : OrderParts) → slice_get blocks k ≡ Some b → slice_get orders k ≡ Some o
      → exit_shape b.exit ≡ exit_shape o.exit
  pub means : (k : ℕ) (b : BlockParts) (o : OrderParts) → slice_get blocks k ≡ Some b → slice_get orders k ≡ Some o → Means b o

-- a plain order breaks no delay rule, and means its block
abbrev pub EachPlainOrderIsClean : Type 0
EachPlainOrderIsClean = (b : BlockParts) → IsClean (plain_order_of b)

abbrev pub EachPlainOrderMeansItsBlock : Type 0
EachPlainOrderMeansItsBlock = (b : BlockParts) → Means b (plain_order_of b)

-- the plain orders of blocks are orders of them
abbrev pub EachPlainUnitHasItsOrders : Type 0
EachPlainUnitHasItsOrders = (blocks : List BlockParts)
    → ((k : ℕ) (b : BlockParts) → slice_get blocks k ≡ Some b → length b.insts ≤ BLOCK_INSTS) → AreOrders blocks (map plain_order_of blocks)

-- blocks keep a state's words, so they compose
abbrev pub EachBlockKeepsWords : Type 0
EachBlockKeepsWords = (b : BlockParts) (s : State) (link : ℕ) (r : Effect) → IsWords s → link < 2 ^ 32 → block_effect b s link ≡ Some r
    → IsWords r.state
