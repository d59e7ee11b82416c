use Rattle.std.proofs.Common.{◌∙◌, arith}
use Rattle.std.specs.Prelude.{slice_index}
use Rattle.std.proofs.lemmas.List.Elements.{All-from_recursion}
use Rattle.mips_isa.specs.Ranges.{IsInst}
use Rattle.mips_asm.specs.Layout.{layout}
use Rattle.mips_asm.proofs.Starts.{same_layout, all_small, all_near}
use Rattle.mips_asm.proofs.emit.code_of.Goals as goal

pub returns-clause-word : goal.returns-clause-word
returns-clause-word c =
    let at = c.deref.ensures.value ∙ c.in_ok-places.ensures in
    rw (c.in_ok-code.ensures.items, at, same_layout c.args.orders.now c.requires.unit.there) at c.in_ok-put_orders.ensures.word

pub returns-clause-fit : goal.returns-clause-fit
returns-clause-fit c =
    let at = c.deref.ensures.value ∙ c.in_ok-places.ensures in
    All-from_recursion IsInst (layout c.args.orders.now)
    (rw (at, same_layout c.args.orders.now c.requires.unit.there) at c.in_ok-put_orders.ensures.fit)

pub put_orders-requires-clause-places : goal.put_orders-requires-clause-places
put_orders-requires-clause-places c =
    let at = c.deref.ensures.value ∙ c.in_ok-places.ensures in
    rw at (all_small c.args.orders.now (omega (arith, c.total-words.ensures.value, c.if-words-gt-CODE_WORDS.false)))

pub put_orders-requires-clause-near : goal.put_orders-requires-clause-near
put_orders-requires-clause-near c =
    let at = c.deref.ensures.value ∙ c.in_ok-places.ensures in
    let fit = c.functions_fit.ensures.fit.0 c.if-not-functions_fit.false in
    rw at (all_near (slice_index c.args.owner.now) c.args.orders.now c.requires.unit fit)
