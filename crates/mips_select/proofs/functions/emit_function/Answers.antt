use Rattle.std.proofs.Common.{append_assoc, arith}
use Rattle.std.proofs.lemmas.Result.{IfOk-equal}
use Rattle.mips_select.proofs.functions.emit_function.Goals as goal

pub number_blocks-requires : goal.number_blocks-requires
number_blocks-requires c = rw (c.lead_in.ensures.value, c.requires.named, c.as_slice-blocks.ensures.value) (omega (arith, c.requires.number))

pub emit_blocks-requires-clause-number : goal.emit_blocks-requires-clause-number
emit_blocks-requires-clause-number c =
    rw (c.lead_in.ensures.value, c.requires.named, c.as_slice-blocks.ensures.value) (omega (arith, c.requires.number))

pub returns : goal.returns
returns c = IfOk-equal c.emit_blocks.result _ _ _ c.emit_blocks.ensures
    (rw (c.in_ok-emit_lead.ensures, c.head_at.ensures, c.as_slice-places.ensures.value, c.in_ok-numbers.ensures, c.lead_in.ensures.value)
    (rw (c.requires.named, c.is_leaf.ensures, c.as_slice-blocks.ensures.value) (simp append_assoc)))
