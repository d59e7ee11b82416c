use Rattle.rtl_emit.specs.Blocks.{spot}
use Rattle.rtl_lower.proofs.Emitting.{sealed, block_ends}
use Rattle.rtl_lower.proofs.statement.turn_to.Goals as goal

pub returns-in_ok-block : goal.returns-in_ok-block
returns-in_ok-block c =
    let join = c.in_ok-block.ensures in
    block_ends c.if-many.true (sealed (spot c.args.last) join.grows join.count join.insts join.sound join.lands)
