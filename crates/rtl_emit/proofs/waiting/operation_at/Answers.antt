use Rattle.std.proofs.Common.{◌<◌, ap, arith}
use Rattle.c_typed.specs.Shape.{typed_expression_of}
use Rattle.rtl_emit.specs.Sizes.{place_registers}
use Rattle.rtl_emit.proofs.Sound.{sound_first, sound_operation}
use Rattle.rtl_emit.proofs.waiting.operation_at.Goals as goal

pub returns-clause-sound : goal.returns-clause-sound
returns-clause-sound c = λ s to few after.
    let first_place = c.in_ok-first.ensures.place in
    let qe = ap (place_registers (typed_expression_of c.args.right.now)) first_place.next_is in
    let one : c.in_ok-first.first.register < s.registers = omega (arith, first_place.counted, few) in
    let other : c.in_ok-second.second.register < s.registers = omega (arith, c.in_ok-second.ensures.place.counted, qe, few) in
    sound_first _ c.in_ok-code.ensures (sound_operation s _ _ _ _ _ c.instruction.ensures to one other) after
