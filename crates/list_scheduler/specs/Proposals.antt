-- What is promised of the orders that a scheduler proposes.
use Rattle.std.specs.Prelude.{◌≤◌, length}
use Rattle.mblock.specs.Parts.{BlockParts, OrderParts}
use Rattle.mblock.specs.PlainOrders.{plain_order_of}

-- an order that takes no more words than the plain one, whose exit takes as many
abbrev pub IsNoLonger : BlockParts → OrderParts → Type 0
IsNoLonger b o = length o.insts ≤ length (plain_order_of b).insts
