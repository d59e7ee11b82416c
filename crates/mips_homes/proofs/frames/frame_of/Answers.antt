use Rattle.std.proofs.Common.{◌∙◌, sym, arith}
use Rattle.mips_homes.proofs.Chosen.{frame_chosen, slots_fit}
use Rattle.mips_homes.proofs.frames.frame_of.Goals as goal

pub returns-clause-choice : goal.returns-clause-choice
returns-clause-choice c = frame_chosen c.args.func.now _ _ _ _ _ _ _ c.in_ok-uses.ensures.long c.in_ok-uses.ensures.value c.as_slice.ensures.value
    c.in_ok-best.ensures c.as_slice-2.ensures.value (c.len.ensures ∙ sym c.as_slice.ensures.len)
    (c.len-2.ensures ∙ sym c.as_slice-2.ensures.len) c.in_ok-homes.ensures c.in_ok-saved.ensures

pub overflow_cast-result : goal.overflow_cast-result
overflow_cast-result c =
    let fits = slots_fit _ _ _ _ _ _ _ c.in_ok-uses.ensures.room c.as_slice.ensures.value c.in_ok-best.ensures c.as_slice-2.ensures.value
    (c.len.ensures ∙ sym c.as_slice.ensures.len) c.in_ok-homes.ensures in
    omega (arith, fits)
