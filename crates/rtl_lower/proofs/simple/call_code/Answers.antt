use Rattle.rtl_emit.specs.Blocks.{spot}
use Rattle.rtl_lower.proofs.Emitting.{call_emits}
use Rattle.rtl_lower.proofs.simple.call_code.Goals as goal

pub returns : goal.returns
returns c =
    let places = c.in_ok-places_of.ensures in
    call_emits _ _ _ _ _ _ _ _ _ _ _ _ _ _ c.exit_block-end.result (spot c.args.after) _ c.in_ok-callee.ensures.is c.in_ok-receiver.ensures
    c.new-places.ensures.items places.places places.room c.as_slice.ensures.value c.as_slice-2.ensures.value c.in_ok-registers.ensures
    c.exit_block-end.ensures c.operands_into.ensures
