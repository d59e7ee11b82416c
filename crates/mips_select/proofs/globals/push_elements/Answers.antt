use Rattle.std.proofs.Common.{get_or, map, refl}
use Rattle.std.proofs.lemmas.List.{get_or_default}
use Rattle.words.specs.Words.{wrap}
use Rattle.words.specs.Widths.{kept}
use Rattle.mips_select.specs.Data.{elements_bytes}
use Rattle.mips_select.proofs.Lists.{made_more, all_made}
use Rattle.mips_select.proofs.globals.push_elements.Goals as goal

pub loop-v-preserved : goal.loop-v-preserved
loop-v-preserved c =
    let width = c.args.width in
    let vs = c.args.values.now in
    let i = c.loop-v.v-index in
    rw c.in_ok-push_element.ensures (made_more (λ vs. elements_bytes width (map (λ v. kept width (wrap v)) vs)) vs i _ _ _ c.loop-v-test.true
    (get_or_default vs i 0 (get_or vs i 0) c.loop-v-test.true) refl c.loop-v.invariant)

pub returns : goal.returns
returns c =
    let width = c.args.width in
    all_made (λ vs. elements_bytes width (map (λ v. kept width (wrap v)) vs)) c.args.values.now c.loop-v.v-index c.loop-v-test.false refl c.loop-v.invariant
