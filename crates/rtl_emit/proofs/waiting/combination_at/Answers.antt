use Rattle.std.proofs.Common.{◌<◌, arith}
use Rattle.rtl_emit.proofs.Emitted.{combine_from}
use Rattle.rtl_emit.proofs.Sound.{sound_first, sound_operation}
use Rattle.rtl_emit.proofs.waiting.combination_at.Goals as goal

pub returns-clause-does : goal.returns-clause-does
returns-clause-does c = λ bs from f.
    combine_from bs _ _ _ _ _ _ _ _ _ from _ _ _ c.instruction.ensures c.in_ok-last.ensures c.in_ok-code.ensures c.in_ok-place.ensures.place
    c.in_ok-other.ensures.is f

pub returns-clause-sound : goal.returns-clause-sound
returns-clause-sound c = λ s to few after.
    let place = c.in_ok-place.ensures.place in
    let held : c.in_ok-place.place.register < s.registers = omega (arith, place.counted, few) in
    let other : c.in_ok-other.other < s.registers = omega (arith, c.in_ok-other.ensures.is, place.next_is, few) in
    sound_first _ c.in_ok-code.ensures other
    (sound_first _ c.in_ok-last.ensures (sound_operation s _ _ _ _ _ c.instruction.ensures to held other) after)
