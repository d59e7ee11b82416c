use Rattle.std.proofs.Common.{All, sym, subst, inl}
use Rattle.std.proofs.lemmas.List.Elements.{All-push}
use Rattle.text.specs.Shown.{IsShown, shown_byte}
use Rattle.text.proofs.Mapped.{mapped_more}
use Rattle.text.proofs.writer.add_within.Goals as goal

pub loop-byte-preserved : goal.loop-byte-preserved
loop-byte-preserved c =
    let grown = c.in_ok-push.ensures.items in
    let byte = c.printable_byte.result in (
      subst (All IsShown) (sym grown) (All-push IsShown c.loop-byte.page.items byte c.loop-byte.invariant.0 (inl c.printable_byte.ensures.printable)),
      mapped_more shown_byte c.args.text.now c.args.page.now.items c.loop-byte.byte-index 0 byte c.loop-byte-test.true grown c.printable_byte.ensures.exact
          c.loop-byte.invariant.1,
    )
