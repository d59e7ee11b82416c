use Rattle.std.proofs.Common.{All, sym, subst}
use Rattle.std.proofs.lemmas.List.Elements.{All-push}
use Rattle.text.specs.Shown.{IsShown, shown_in_lines}
use Rattle.text.proofs.Mapped.{mapped_more}
use Rattle.text.proofs.page.add_lines.Goals as goal

pub loop-byte-preserved : goal.loop-byte-preserved
loop-byte-preserved c =
    let grown = c.in_ok-push.ensures.items in
    let byte = c.shown_in_lines.result in (
      subst (All IsShown) (sym grown) (All-push IsShown c.loop-byte.page.items byte c.loop-byte.invariant.0 c.shown_in_lines.ensures.shown),
      mapped_more shown_in_lines c.args.text.now c.args.page.now.items c.loop-byte.byte-index 0 byte c.loop-byte-test.true grown c.shown_in_lines.ensures.exact
          c.loop-byte.invariant.1,
    )
