use Rattle.std.proofs.Common.{List, sym, ap, ◌∙◌, arith}
use Rattle.std.proofs.lemmas.List.{at_drop_more, at_drop_all}
use Rattle.c_typed.specs.declared.tree.TypedStatement.{TypedStatement}
use Rattle.c_typed.specs.Shape.{statement_of, statements_of}
use Rattle.c_typed.proofs.Shapes.{block-is}
use Rattle.rtl_lower.specs.Sizes.{continues, any_continues}
use Rattle.rtl_lower.proofs.shape.+may_continue.Goals as goal

pub returns-then-may_continue : goal.returns-then-may_continue
returns-then-may_continue t c =
    let any = λ (l : List TypedStatement). any_continues (statements_of l) in
    let is = ap continues (ap statement_of c.in-Block.is ∙ block-is c.in-Block.all) ∙ ap any (sym c.deref-one-items.ensures.value) in
    grind (arith, is, at_drop_more any c.deref-one-items.result.now c.loop-one.one-index c.one-item.result c.loop-one-test.true, c.one-item.is)

pub returns-after-loop-one : goal.returns-after-loop-one
returns-after-loop-one t c =
    let any = λ (l : List TypedStatement). any_continues (statements_of l) in
    let is = ap continues (ap statement_of c.in-Block.is ∙ block-is c.in-Block.all) ∙ ap any (sym c.deref-one-items.ensures.value) in
    grind (arith, is, at_drop_all any c.deref-one-items.result.now c.loop-one.one-index c.loop-one-test.false)
