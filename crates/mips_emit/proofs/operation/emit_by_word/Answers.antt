use Rattle.std.proofs.Common.{take, sym, ap, ap₂, ◌∙◌}
use Rattle.mips_emit.specs.Code.{operand_register, operation, immediate_of, turned_immediate_of, turned_less_of}
use Rattle.mips_emit.proofs.Operations.{one_or_two_are}
use Rattle.mips_emit.proofs.Prefixes.{emits_behind}
use Rattle.mips_emit.proofs.operation.emit_by_word.Goals as goal

pub returns : goal.returns
returns c =
    let op = c.args.op in
    let rd = c.args.rd in
    let x = c.args.x.now in
    let y = c.args.y.now in
    let rt = c.operand_register-rt.ensures ∙ ap (λ t. operand_register t y.source) c.register-t.ensures in
    let right = ap (λ q. immediate_of op rd q y.known) (sym c.operand_register-rs.ensures) ∙ sym c.immediate_of.ensures ∙ c.in_default.is in
    let left = ap (λ q. turned_immediate_of op rd q x.known) (sym rt) ∙ sym c.turned_immediate_of.ensures ∙ c.in_default-turned_immediate_of.is in
    let less = ap (λ q. turned_less_of op rd q x.known) (sym rt) ∙ sym c.turned_less_of.ensures ∙ c.in_default-turned_less_of.is in
    let first = sym (ap₂ (λ a b. take 1 (operation op rd a b)) c.operand_register-rs.ensures rt) ∙ c.first_of.ensures in
    let both = one_or_two_are c.first_of.result c.second_of.result _ first
    (c.second_of.ensures (operand_register c.args.inner x.source) (operand_register 2 y.source)) in
    rw (right, left, less, ← both, ← c.register-t.ensures) (emits_behind c.emit_after-2.result _ _ _ _ _ c.in_ok-emit_fetch.ensures c.emit_after-2.ensures)
