-- One order for each block of a unit, and how many blocks had which verdict.
use Rattle.std.specs.Prelude.{◌≡◌, ◌≤◌, List, length, map}
use Rattle.mblock.specs.Parts.{OrderParts}
use Rattle.mblock.specs.Units.{UnitParts, IsUnit}
use Rattle.mblock.specs.Orders.{AreOrders}
use Rattle.mblock.specs.PlainOrders.{plain_order_of}
use Rattle.image.specs.Images.{CountsOf, total}

pub record ScheduledParts : Type 0 where
  pub unit : UnitParts
  pub orders : List OrderParts
  pub report : CountsOf

-- orders of a unit's blocks; no block is counted twice
pub record IsScheduled (s : ScheduledParts) : Type 0 where
  pub unit : IsUnit s.unit
  pub orders : AreOrders s.unit.blocks s.orders
  pub counted : total s.report ≤ length s.unit.blocks

-- each order is the plain one of its block
abbrev pub ArePlain : ScheduledParts → Type 0
ArePlain s = s.orders ≡ map plain_order_of s.unit.blocks

abbrev pub no_counts : CountsOf
no_counts = record { same = 0; unclean = 0; differs = 0; full = 0; no_memory = 0; missed = 0 }
