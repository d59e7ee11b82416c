use Rattle.std.proofs.Common.{◌≡◌, ◌≤◌, map, take, length, All}
use Rattle.mblock.specs.declared.limits.TheConstants.{BLOCK_INSTS}
use Rattle.mblock.specs.PlainOrders.{plain_order_of}
use Rattle.mblock.proofs.padding.plain_orders.Given as goal

-- the orders so far, of blocks that are short enough
abbrev pub invariant-loop-block : goal.invariant-loop-block
invariant-loop-block l = record {
  made : l.orders.items ≡ map plain_order_of (take l.block-index l.block-items);
  short : All (λ b. length b.insts ≤ BLOCK_INSTS) (take l.block-index l.block-items);
}
