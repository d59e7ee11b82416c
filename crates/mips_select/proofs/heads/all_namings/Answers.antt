use Rattle.std.proofs.Common.{drop, ◌+◌, sym, ap, ◌∙◌}
use Rattle.std.proofs.lemmas.List.{at_drop_all}
use Rattle.mips_select.specs.Heads.{namings}
use Rattle.mips_select.proofs.Lists.{drop_item}
use Rattle.mips_select.proofs.heads.all_namings.Goals as goal

pub loop-b-preserved : goal.loop-b-preserved
loop-b-preserved c =
    let bs = c.args.blocks.now in
    let i = c.loop-b.b-index in
    let item = drop_item (λ bs. namings bs c.loop-b.table.items) bs i c.loop-b-test.true c.b-item.is in
    ap (namings (drop (i + 1) bs)) c.note_exit.ensures ∙ sym item ∙ c.loop-b.invariant

pub returns : goal.returns
returns c = sym (at_drop_all (λ bs. namings bs c.loop-b.table.items) c.args.blocks.now c.loop-b.b-index c.loop-b-test.false) ∙ c.loop-b.invariant
