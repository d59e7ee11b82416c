use Rattle.std.proofs.Common.{sym, subst, ◌∙◌, arith}
use Rattle.image.specs.Images.{CountsOf, Second, IsImage, parts_behind}
use Rattle.image.proofs.Laws.{passed, is_first, is_second}
use Rattle.image.proofs.bytes.image_of.Goals as goal

pub image_behind-requires-clause-image : goal.image_behind-requires-clause-image
image_behind-requires-clause-image c =
    is_first c.args.bytes.now (λ i. omega (arith, c.type_inv.bytes i)) (passed c.args.bytes.now c.requires)
    (sym c.word_at_byte.ensures ∙ c.if-word_at_byte-eq1.true)

pub image_behind-requires-else-word_at_byte-eq1-clause-image : goal.image_behind-requires-else-word_at_byte-eq1-clause-image
image_behind-requires-else-word_at_byte-eq1-clause-image c =
    let bytes = c.args.bytes.now in
    let P : CountsOf → Type 0 = λ k. IsImage (parts_behind (Second k) 44 bytes) in
    subst P (sym c.counts_at.ensures)
    (is_second bytes (λ i. omega (arith, c.type_inv.bytes i)) (passed bytes c.requires) (λ e. c.if-word_at_byte-eq1.false (c.word_at_byte.ensures ∙ e)))
