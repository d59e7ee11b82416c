use Rattle.std.proofs.Common.{◌<◌, ap, arith}
use Rattle.rtl_emit.specs.Blocks.{insts_of}
use Rattle.std.proofs.lemmas.Result.{IfOk-weaker}
use Rattle.rtl_emit.proofs.Emitted.{plain_from, negated_from}
use Rattle.rtl_emit.proofs.Emitting.{test_names, contrary_test_names}
use Rattle.rtl_emit.proofs.Sound.{sound_exit}
use Rattle.rtl_emit.proofs.waiting.test_at.Goals as goal

pub returns-in_ok-place-clause-does : goal.returns-in_ok-place-clause-does
returns-in_ok-place-clause-does c = λ bs from f.
    plain_from bs _ _ _ _ _ _ from _ c.exit_block-code.ensures c.in_ok-place.ensures.place f

pub returns-in_ok-contrary-clause-does : goal.returns-in_ok-contrary-clause-does
returns-in_ok-contrary-clause-does c =
    IfOk-weaker c.combination_at.result _ _
    (λ w h bs from f. negated_from bs _ _ _ _ _ _ from _ c.exit_block-end.ensures c.straight_op.ensures c.in_ok-contrary.ensures.is
    (h bs from f))
    c.combination_at.ensures.does

pub returns-in_ok-contrary-clause-insts : goal.returns-in_ok-contrary-clause-insts
returns-in_ok-contrary-clause-insts c =
    IfOk-weaker c.combination_at.result _ _
    (λ w h. let n = ap insts_of c.exit_block-end.ensures in omega (arith, n, h))
    c.combination_at.ensures.insts

pub returns-in_ok-place-clause-sound : goal.returns-in_ok-place-clause-sound
returns-in_ok-place-clause-sound c = λ s few yes no.
    let names = test_names c.args.targets.likely _ _ _ _ s.registers few in
    let held : c.in_ok-place.place.register < s.registers = omega (arith, c.in_ok-place.ensures.place.counted, names.0) in
    sound_exit _ c.exit_block-code.ensures (held, (yes, no))

pub returns-in_ok-contrary-clause-sound : goal.returns-in_ok-contrary-clause-sound
returns-in_ok-contrary-clause-sound c =
    IfOk-weaker c.combination_at.result _ _
    (λ w h s few yes no.
    let names = contrary_test_names c.args.targets.likely _ _ _ s.registers c.if-targets.false few in
    let to : c.in_ok-contrary.contrary < s.registers = omega (arith, c.in_ok-contrary.ensures.is, names.0) in
    h s to names.1 (sound_exit _ c.exit_block-end.ensures (to, (no, yes))))
    c.combination_at.ensures.sound
