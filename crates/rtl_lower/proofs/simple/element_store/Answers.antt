use Rattle.rtl_emit.specs.Blocks.{spot}
use Rattle.rtl_lower.proofs.Emitting.{store_emits}
use Rattle.rtl_lower.proofs.simple.element_store.Goals as goal

pub returns : goal.returns
returns c =
    let index = c.in_ok-index_place.ensures in
    let value = c.in_ok-value.ensures in
    store_emits _ _ _ _ _ _ _ _ _ _ _ _ c.in_ok-last.last c.in_ok-middle.middle (spot c.args.after) _ c.in_ok-global.ensures.is index.place index.room
    value.place value.room c.in_ok-last.ensures c.in_ok-middle.ensures c.operand_into-2.ensures
