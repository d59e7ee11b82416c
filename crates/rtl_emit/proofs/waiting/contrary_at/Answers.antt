use Rattle.std.proofs.Common.{◌<◌, arith}
use Rattle.std.proofs.lemmas.Result.{IfOk-weaker}
use Rattle.rtl_emit.proofs.Sound.{sound_exit}
use Rattle.rtl_emit.proofs.waiting.contrary_at.Goals as goal

pub returns-clause-sound : goal.returns-clause-sound
returns-clause-sound c =
    IfOk-weaker c.operation_at.result _ _
    (λ w h s few yes no.
    let to : c.in_ok-to.to < s.registers = omega (arith, c.in_ok-to.ensures.is, few) in
    h s to (omega (arith, few)) (sound_exit _ c.exit_block-end.ensures (to, (no, yes))))
    c.operation_at.ensures.sound
