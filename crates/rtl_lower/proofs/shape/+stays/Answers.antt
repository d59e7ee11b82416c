use Rattle.std.proofs.Common.{ap, sym, ◌∙◌}
use Rattle.c_typed.specs.Shape.{statement_of}
use Rattle.c_typed.proofs.Shapes.{block-is}
use Rattle.rtl_lower.specs.Sizes as Sizes
use Rattle.rtl_lower.proofs.Sizes.{last_of, last_none}
use Rattle.rtl_lower.proofs.shape.+stays.Goals as goal

pub returns-in-Some : goal.returns-in-Some
returns-in-Some t c =
    let is = ap statement_of c.in-Block.is ∙ block-is c.in-Block.all in
    c.stays.ensures ∙ sym (ap Sizes.stays is ∙ last_of _ _ _ _ c.as_slice.ensures.value c.in-Some.ensures.value)

pub returns-in-None : goal.returns-in-None
returns-in-None t c =
    sym (ap Sizes.stays (ap statement_of c.in-Block.is ∙ block-is c.in-Block.all) ∙ last_none _ _ c.as_slice.ensures.value c.in-None.ensures.value)
