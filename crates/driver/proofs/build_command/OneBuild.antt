-- Two builds of one unit that decided each block make one image.
use Rattle.std.proofs.Common.{◌≡◌, map, sym, ap, ◌∙◌}
use Rattle.mips_code.specs.Words.{inst_word}
use Rattle.mips_asm.specs.Layout.{layout}
use Rattle.image.specs.Images.{Second, image_bytes}
use Rattle.sched_phase.specs.Phases.{Proposals}
use Rattle.sched_phase.proofs.Outcomes.{one_outcome}
use Rattle.driver.specs.OneBuild.{OneBuild}

pub one_build : (proposes : Proposals) → OneBuild proposes
one_build proposes one a b h g unit each all =
    let x = h.build in
    let y = g.build in
    let same = one_outcome proposes one h.scheduled g.scheduled x.orders y.orders unit h.suits g.suits (rw x.report at each) (rw y.report at all) in
    let version = x.counted ∙ ap Second same.1 ∙ sym y.counted in
    let entry = x.assembled.entry ∙ sym y.assembled.entry in
    let code = x.assembled.code ∙ ap (λ os. map inst_word (layout os)) same.0 ∙ sym y.assembled.code in
    let bytes = x.assembled.bytes ∙ ap (λ u. u.globals) unit ∙ sym y.assembled.bytes in
    let image : image_bytes x.image ≡ image_bytes y.image = rw (version, entry, code, bytes) in
    x.bytes ∙ image ∙ sym y.bytes
