use Rattle.mips_emit.proofs.Prefixes.{prefix_before, prefix_behind, at_prefix, in_two, emits_behind}
use Rattle.mips_emit.proofs.inst.emit_load.Goals as goal

pub returns : goal.returns
returns c =
    rw (← c.into_of-rt.ensures, ← c.element_load.ensures) (emits_behind c.emit_finish.result _ _ _ _ _
    (in_two _ _ _ _ _ c.in_ok-emit_element.ensures c.in_ok-emit_one.ensures) c.emit_finish.ensures)

pub returns-in_err-emit_element : goal.returns-in_err-emit_element
returns-in_err-emit_element c =
    let from = c.from_residual in
    at_prefix from.result _ _ _ from.ensures.0 (prefix_before _ _ _ _ (prefix_before _ _ _ _ c.in_err-emit_element.ensures))

pub returns-in_err-emit_one : goal.returns-in_err-emit_one
returns-in_err-emit_one c =
    let from = c.from_residual-in_err-emit_one in
    rw (← c.into_of-rt.ensures, ← c.element_load.ensures) (at_prefix from.result _ _ _ from.ensures.0
    (prefix_before _ _ _ _ (prefix_behind _ _ _ _ _ c.in_ok-emit_element.ensures c.in_err-emit_one.ensures)))
