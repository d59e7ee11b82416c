-- When a start state refutes that an order means its block.
use Rattle.std.specs.Prelude.{◌≡◌, ◌≢◌, ℕ, ◌<◌, ◌^◌, Option, Some, None}
use Rattle.mips_isa.specs.States.{State, IsWords}
use Rattle.mblock.specs.Parts.{BlockParts, OrderParts}
use Rattle.mblock.specs.BlockMeaning.{Effect, block_effect}
use Rattle.mblock.specs.OrderMeaning.{order_effect}
use Rattle.mblock.specs.Orders.{Means}
use Rattle.counterexample.specs.declared.difference.Difference.{Difference}
use Rattle.counterexample.specs.declared.difference.Difference.TheVariants as differences

-- what an order came to differs there from what its block left
abbrev pub DiffersIn : Difference → Effect → Option Effect → Type 0
DiffersIn differences.Stuck x y = y ≡ None
DiffersIn (differences.Register r) x y = (z : Effect) × (y ≡ Some z) × (x.state.regs r ≢ z.state.regs r)
DiffersIn differences.Hi x y = (z : Effect) × (y ≡ Some z) × (x.state.hi ≢ z.state.hi)
DiffersIn differences.Lo x y = (z : Effect) × (y ≡ Some z) × (x.state.lo ≢ z.state.lo)
DiffersIn (differences.Memory a) x y = (z : Effect) × (y ≡ Some z) × (x.state.memory a ≢ z.state.memory a)
DiffersIn differences.Exit x y = (z : Effect) × (y ≡ Some z) × (x.goes ≢ z.goes)

-- a state of words from which the block isn't stuck, and the order is or leaves another thing there
pub record Refutes (b : BlockParts) (o : OrderParts) (s : State) (link : ℕ) (d : Difference) : Type 0 where
  pub words : IsWords s
  pub low : link < 2 ^ 32
  pub left : Effect
  pub runs : block_effect b s link ≡ Some left
  pub differs : DiffersIn d left (order_effect o s link)

-- a state from which the order does what the block does, where that isn't stuck
abbrev pub Agrees : BlockParts → OrderParts → State → ℕ → Type 0
Agrees b o s link = (r : Effect) → block_effect b s link ≡ Some r → order_effect o s link ≡ Some r

abbrev pub RefutedOrdersDoNotMeanTheirBlocks : Type 0
RefutedOrdersDoNotMeanTheirBlocks = (b : BlockParts) (o : OrderParts) (s : State) (link : ℕ) (d : Difference) → Refutes b o s link d → Means b o → ⊥

-- no state is both
abbrev pub NoRefutingStateAgrees : Type 0
NoRefutingStateAgrees = (b : BlockParts) (o : OrderParts) (s : State) (link : ℕ) (d : Difference) → Refutes b o s link d → Agrees b o s link → ⊥
