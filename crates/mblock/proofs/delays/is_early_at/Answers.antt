use Rattle.std.proofs.Common.{◌∙◌, sym, ap}
use Rattle.mips_isa.specs.Actions.{is_move}
use Rattle.mblock.specs.Clean.{kinds_of, slot_words}
use Rattle.mblock.specs.CleanTests.{is_move_word}
use Rattle.mblock.proofs.WordPlaces.{word_read, early_first, early_second, early_never}
use Rattle.mblock.proofs.delays.is_early_at.Goals as goal

pub returns-then-is_product_at : goal.returns-then-is_product_at
returns-then-is_product_at c = early_first (kinds_of c.args.insts.now (slot_words c.args.slot.now)) c.args.k c.is_move.result c.is_product_at.result
    (c.is_move.ensures ∙ ap is_move c.action.ensures ∙ sym (ap is_move_word
    (word_read c.args.insts.now (slot_words c.args.slot.now) c.args.k c.index-insts-k.result c.requires.low c.index-insts-k.is)))
    c.is_product_at.ensures c.if-is_move.true c.if-is_product_at.true

pub returns-else-is_product_at : goal.returns-else-is_product_at
returns-else-is_product_at c = early_second (kinds_of c.args.insts.now (slot_words c.args.slot.now)) c.args.k c.is_move.result c.is_product_at.result
    c.is_product_at-else-is_product_at.result (c.is_move.ensures ∙ ap is_move c.action.ensures ∙ sym (ap is_move_word
    (word_read c.args.insts.now (slot_words c.args.slot.now) c.args.k c.index-insts-k.result c.requires.low c.index-insts-k.is)))
    c.is_product_at.ensures c.is_product_at-else-is_product_at.ensures c.if-is_move.true c.if-is_product_at.false

pub returns-else-is_move : goal.returns-else-is_move
returns-else-is_move c = early_never (kinds_of c.args.insts.now (slot_words c.args.slot.now)) c.args.k c.is_move.result
    (c.is_move.ensures ∙ ap is_move c.action.ensures ∙ sym (ap is_move_word
    (word_read c.args.insts.now (slot_words c.args.slot.now) c.args.k c.index-insts-k.result c.requires.low c.index-insts-k.is))) c.if-is_move.false
