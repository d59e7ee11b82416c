use Rattle.std.proofs.Common.{sym, ap, ◌∙◌}
use Rattle.mips_isa.specs.Actions.{is_product}
use Rattle.mblock.specs.Clean.{slot_words}
use Rattle.mblock.specs.CleanTests.{is_product_word}
use Rattle.mblock.proofs.WordPlaces.{word_read, kind_past}
use Rattle.mblock.proofs.delays.is_product_at.Goals as goal

pub returns-then-k-insts : goal.returns-then-k-insts
returns-then-k-insts c = c.is_product.ensures ∙ ap is_product c.action.ensures ∙ sym (ap is_product_word
    (word_read c.args.insts.now (slot_words c.args.slot.now) c.args.k c.index-insts-k.result c.if-k-insts.true c.index-insts-k.is))

pub returns-then-k-insts-2 : goal.returns-then-k-insts-2
returns-then-k-insts-2 c =
    c.is_slot_product.ensures ∙ sym (ap is_product_word (kind_past c.args.insts.now (slot_words c.args.slot.now) c.args.k 1 c.if-k-insts-2.true))
