use Rattle.std.proofs.Common.{arith}
use Rattle.mips_select.proofs.Blocks.{piece_step}
use Rattle.mips_select.proofs.pieces.push_pieces.Goals as goal

pub loop-rest-preserved : goal.loop-rest-preserved
loop-rest-preserved c =
    let step = piece_step c.args.exit _ _ _ c.loop-rest.rest.now _ _ _ c.loop-rest-test.true c.split_at.ensures.back_len
    c.split_at.ensures.front c.split_at.ensures.back
    (omega (arith, c.number-next.ensures, c.len.ensures)) c.in_ok-push_piece.ensures c.loop-rest.invariant.few c.loop-rest.invariant.made in
    record { few = step.0; made = step.1 }
