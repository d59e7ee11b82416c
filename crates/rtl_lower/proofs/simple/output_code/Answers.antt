use Rattle.rtl_emit.specs.Blocks.{spot}
use Rattle.rtl_lower.proofs.Emitting.{sealed, output_emits}
use Rattle.rtl_lower.proofs.simple.output_code.Goals as goal

pub returns : goal.returns
returns c =
    let join = c.in_ok-block.ensures in
    let value = c.in_ok-value.ensures in
    output_emits _ _ _ _ _ _ _ _ c.exit_block-end.result (spot c.args.after) _
    (sealed _ join.grows join.count join.insts join.sound join.lands) value.place value.room c.exit_block-end.ensures
    c.operand_into.ensures
