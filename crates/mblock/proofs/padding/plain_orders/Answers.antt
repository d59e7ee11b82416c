use Rattle.std.proofs.Common.{◌≡◌, ◌≤◌, List, All, length, map, take, ap, ◌∙◌, subst, sym}
use Rattle.std.proofs.lemmas.List.{take_all}
use Rattle.std.proofs.lemmas.List.Elements.{All-more, All-get_or}
use Rattle.std.proofs.lemmas.Option.{slice_get_within, get_or_from_slice_get}
use Rattle.mblock.specs.declared.limits.TheConstants.{BLOCK_INSTS}
use Rattle.mblock.specs.Parts.{BlockParts}
use Rattle.mblock.specs.Orders.{AreOrders}
use Rattle.mblock.specs.PlainOrders.{plain_order_of}
use Rattle.mblock.proofs.PlainOrders.{orders_more}
use Rattle.mblock.proofs.PlainMeans.{each_plain_unit_has_its_orders}
use Rattle.mblock.proofs.padding.plain_orders.Goals as goal

abbrev IsShort : BlockParts → Type 0
IsShort b = length b.insts ≤ BLOCK_INSTS

pub loop-block-preserved : goal.loop-block-preserved
loop-block-preserved c =
    let blocks = c.blocks-block-items.result.now in
    record {
      made = orders_more blocks c.loop-block.orders.items c.push.new.self.items c.loop-block.block-index c.block-item.result c.in_ok-plain.field-0
          c.loop-block-test.true c.block-item.is c.loop-block.invariant.made c.in_ok-plain.ensures.order c.in_ok-push.ensures.items;
      short = All-more IsShort blocks c.loop-block.block-index c.block-item.result c.loop-block-test.true c.loop-block.invariant.short
          (rw (sym c.block-item.is) c.plain.ensures.limit);
    }

pub returns-clause-orders : goal.returns-clause-orders
returns-clause-orders c =
    let blocks = c.blocks-block-items.result.now in
    let all : take c.loop-block.block-index blocks ≡ blocks = take_all c.loop-block.block-index blocks c.loop-block-test.false in
    let made : c.loop-block.orders.items ≡ map plain_order_of blocks = c.loop-block.invariant.made ∙ ap (map plain_order_of) all in
    let short : All IsShort blocks = subst (All IsShort) all c.loop-block.invariant.short in
    let orders = each_plain_unit_has_its_orders blocks (λ k b e.
    subst IsShort (get_or_from_slice_get blocks k b b e) (All-get_or IsShort blocks k b (slice_get_within blocks k b e) short)) in
    subst (λ (l : List BlockParts). AreOrders l c.loop-block.orders.items) c.blocks-block-items.ensures.value (subst (AreOrders blocks) (sym made) orders)
