-- Which orders serve a block.
use Rattle.std.proofs.Common.{◌≡◌, ◌≤◌, length, sym, refl, subst}
use Rattle.mblock.specs.declared.limits.TheConstants.{BLOCK_INSTS}
use Rattle.mblock.specs.Parts.{BlockParts, OrderParts}
use Rattle.mblock.specs.Clean.{FitsSlot}
use Rattle.mblock.specs.BlockMeaning.{exit_shape}
use Rattle.mblock.specs.Orders.{Means}
use Rattle.mblock.specs.PlainOrders.{plain_order_of}
use Rattle.mblock.specs.Slots.{is_slotted}
use Rattle.mblock.proofs.PlainMeans.{plain_means}
use Rattle.mblock.proofs.PlainOrders.{slot_fits}
use Rattle.sched_phase.specs.Settling.{Serves}

pub plain_serves : (b : BlockParts) → length b.insts ≤ BLOCK_INSTS → Serves b (plain_order_of b)
plain_serves b few = record { short = few; fits = slot_fits (is_slotted b.exit); exit = refl; means = plain_means b }

pub serves_same : (b c : BlockParts) (o : OrderParts) → c ≡ b → length b.insts ≤ BLOCK_INSTS → FitsSlot o → exit_shape c.exit ≡ exit_shape o.exit → Means c o → Serves b o
serves_same b c o e few fits exit means =
    let short : length c.insts ≤ BLOCK_INSTS = subst (λ (b : BlockParts). length b.insts ≤ BLOCK_INSTS) (sym e) few in
    subst (λ b. Serves b o) e (record { short = short; fits = fits; exit = exit; means = means })
