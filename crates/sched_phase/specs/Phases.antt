-- How the blocks of a unit came to their orders, and how they are counted.
use Rattle.std.specs.Prelude.{◌≡◌, ℕ, List, Some, length, slice_get}
use Rattle.std.specs.List.{sum_by}
use Rattle.mblock.specs.Parts.{BlockParts, OrderParts}
use Rattle.mblock.specs.PlainOrders.{plain_order_of}
use Rattle.mblock.specs.declared.unclean.Unclean.{Unclean}
use Rattle.image.specs.Images.{CountsOf}
use Rattle.block_validator.specs.Verdicts.{Decision, Decides}
use Rattle.block_validator.specs.Verdicts as decisions
use Rattle.block_validator.specs.declared.place.Place.{Place}
use Rattle.block_validator.specs.declared.verdict.Verdict.{Verdict}
use Rattle.block_validator.specs.declared.verdict.Verdict.TheVariants as verdicts
use Rattle.sched_phase.specs.Schedules.{ScheduledParts}

-- the orders that a scheduler may propose for a block
abbrev pub Proposals : Type 1
Proposals = BlockParts → OrderParts → Type 0

-- what a block is counted under: its order was accepted, or why it has the plain one
pub data Kind : Type 0 where
  same : Kind
  unclean : Kind
  differs : Kind
  full : Kind
  no_memory : Kind
  missed : Kind

-- some order may be proposed for the block of which this is decided
abbrev pub MayCome : Proposals → BlockParts → Decision → Type 0
MayCome proposes b d = (o : OrderParts) × proposes b o × Decides b o d

-- the order that a block has by what it is counted under: one that was proposed and means it, or the plain one
abbrev pub Suits : Proposals → BlockParts → OrderParts → Kind → Type 0
Suits proposes b o same = proposes b o × Decides b o decisions.same
Suits proposes b o unclean = (o ≡ plain_order_of b) × ((rule : Unclean) × MayCome proposes b (decisions.unclean rule))
Suits proposes b o differs = (o ≡ plain_order_of b) × ((place : Place) × MayCome proposes b (decisions.differs place))
Suits proposes b o full = o ≡ plain_order_of b
Suits proposes b o no_memory = o ≡ plain_order_of b
Suits proposes b o missed = o ≡ plain_order_of b

-- one block counted
abbrev pub count_of : Kind → CountsOf
count_of same = record { same = 1; unclean = 0; differs = 0; full = 0; no_memory = 0; missed = 0 }
count_of unclean = record { same = 0; unclean = 1; differs = 0; full = 0; no_memory = 0; missed = 0 }
count_of differs = record { same = 0; unclean = 0; differs = 1; full = 0; no_memory = 0; missed = 0 }
count_of full = record { same = 0; unclean = 0; differs = 0; full = 1; no_memory = 0; missed = 0 }
count_of no_memory = record { same = 0; unclean = 0; differs = 0; full = 0; no_memory = 1; missed = 0 }
count_of missed = record { same = 0; unclean = 0; differs = 0; full = 0; no_memory = 0; missed = 1 }

-- these kinds are what is counted
pub record Counts (kinds : List Kind) (c : CountsOf) : Type 0 where
  pub same : c.same ≡ sum_by (λ k. (count_of k).same) kinds
  pub unclean : c.unclean ≡ sum_by (λ k. (count_of k).unclean) kinds
  pub differs : c.differs ≡ sum_by (λ k. (count_of k).differs) kinds
  pub full : c.full ≡ sum_by (λ k. (count_of k).full) kinds
  pub no_memory : c.no_memory ≡ sum_by (λ k. (count_of k).no_memory) kinds
  pub missed : c.missed ≡ sum_by (λ k. (count_of k).missed) kinds

-- the first blocks have these orders, each counted once
pub record AreSettled (proposes : Proposals) (blocks : List BlockParts) (orders : List OrderParts) (report : CountsOf) : Type 0 where
  pub kinds : List Kind
  pub long : length kinds ≡ length orders
  pub each : (i : ℕ) (o : OrderParts) → slice_get orders i ≡ Some o
      → (b : BlockParts) × (k : Kind) × (slice_get blocks i ≡ Some b) × (slice_get kinds i ≡ Some k) × Suits proposes b o k
  pub counted : Counts kinds report

-- each block of a unit has an order that the scheduler may propose and that means it, or the plain one, and is counted once
abbrev pub IsPhase : Proposals → ScheduledParts → Type 0
IsPhase proposes s = AreSettled proposes s.unit.blocks s.orders s.report

-- the same, and no block was missed
pub record IsWholePhase (proposes : Proposals) (s : ScheduledParts) : Type 0 where
  pub phase : IsPhase proposes s
  pub none_missed : s.report.missed ≡ 0

-- a verdict on an order that may be proposed for the block
abbrev pub Fits : Proposals → BlockParts → Verdict → Type 0
Fits proposes b (verdicts.Same c) = (c.block ≡ b) × proposes b c.order × Decides b c.order decisions.same
Fits proposes b (verdicts.Unclean rule) = MayCome proposes b (decisions.unclean rule)
Fits proposes b (verdicts.Differs place) = MayCome proposes b (decisions.differs place)
Fits proposes b verdicts.Full = Unit {0}
Fits proposes b verdicts.NoMemory = Unit {0}

-- a verdict for the block of this number, if there is one
abbrev pub IsRightFor : Proposals → List BlockParts → ℕ → Verdict → Type 0
IsRightFor proposes blocks i v = (b : BlockParts) → slice_get blocks i ≡ Some b → Fits proposes b v
