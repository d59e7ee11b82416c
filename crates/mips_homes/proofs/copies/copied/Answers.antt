use Rattle.std.proofs.Common.{◌∙◌, ap, ap₂, sym, arith}
use Rattle.mips_homes.specs.Convention.{temporaries}
use Rattle.mips_homes.specs.Copies.{unused, copied_onto}
use Rattle.mips_homes.proofs.Located.{unused_temporary}
use Rattle.mips_homes.proofs.copies.copied.Goals as goal

pub copied_onto-requires : goal.copied_onto-requires
copied_onto-requires c = λ j r e.
    let is = unused_temporary c.as_slice.result.now j r (rw (c.as_slice-3.ensures.value, c.in_ok-free.ensures) at e) in
    omega (arith, is.0)

pub returns : goal.returns
returns c =
    let free = c.as_slice-3.ensures.value ∙ c.in_ok-free.ensures ∙ ap (λ hs. unused hs temporaries) c.as_slice.ensures.value in
    rw (sym c.is_leaf.ensures ∙ c.if-not-is_leaf.false) (rw (ap₂ copied_onto free c.as_slice-2.ensures.value) at c.copied_onto.ensures)
