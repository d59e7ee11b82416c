use Rattle.std.proofs.Common.{ap, ◌∙◌}
use Rattle.mips_emit.specs.Code.{operand_register}
use Rattle.mips_emit.proofs.Prefixes.{prefix_before, at_prefix, emits_behind}
use Rattle.mips_emit.proofs.inst.emit_store.Goals as goal

pub returns : goal.returns
returns c =
    let rt = c.operand_register-rt.ensures ∙ ap (λ t. operand_register t c.args.y.now) c.register-t.ensures in
    rw (← rt, ← c.register-t.ensures, ← c.element_store-store.ensures)
    (emits_behind c.emit_after.result _ _ _ _ _ c.in_ok-emit_element.ensures c.emit_after.ensures)

pub returns-in_err-emit_element : goal.returns-in_err-emit_element
returns-in_err-emit_element c =
    let from = c.from_residual in
    at_prefix from.result _ _ _ from.ensures.0 (prefix_before _ _ _ _ c.in_err-emit_element.ensures)
