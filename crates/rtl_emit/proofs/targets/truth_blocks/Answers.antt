use Rattle.rtl_emit.proofs.Blocks.{within}
use Rattle.rtl_emit.proofs.Emitted.{truth_code}
use Rattle.rtl_emit.proofs.Sound.{sound_exit, sound_first}
use Rattle.rtl_emit.proofs.targets.truth_blocks.Goals as goal

pub returns-clause-truth : goal.returns-clause-truth
returns-clause-truth c = rw c.likely_first.ensures
    (truth_code _ _ _ _ _ _ _ _ _ _ _ _ _ c.exit_block.ensures c.in_ok-no_code.ensures c.exit_block-2.ensures c.in_ok-yes_code.ensures
    c.in_ok-join.ensures.grows c.in_ok-no.ensures.grows c.in_ok-yes.ensures.grows c.in_ok-join.ensures.lands c.in_ok-no.ensures.at c.in_ok-yes.ensures.at)

pub returns-clause-sound : goal.returns-clause-sound
returns-clause-sound c = rw c.likely_first.ensures (λ s n g h.
    let n2 = within c.in_ok-yes.ensures.grows n in
    let n1 = within c.in_ok-no.ensures.grows n2 in
    let j = c.in_ok-join.ensures.sound s n1 g h.1 in
    let no = c.in_ok-no.ensures.sound s n2 j.0 (sound_first _ c.in_ok-no_code.ensures h.0 (sound_exit _ c.exit_block.ensures j.1)) in
    let yes = c.in_ok-yes.ensures.sound s n no.0 (sound_first _ c.in_ok-yes_code.ensures h.0 (sound_exit _ c.exit_block-2.ensures j.1)) in
    (yes.0, (yes.1, no.1)))
