use Rattle.std.proofs.Common.{◌∙◌}
use Rattle.mips_emit.proofs.Prefixes.{emits_behind}
use Rattle.mips_emit.proofs.comparison.emit_comparison.Goals as goal

pub returns-in-Known : goal.returns-in-Known
returns-in-Known c = rw (c.in-Known.is, ← c.nop.ensures) c.emit_one.ensures

pub returns-in_ok-emit_fetch-in-OnPair : goal.returns-in_ok-emit_fetch-in-OnPair
returns-in_ok-emit_fetch-in-OnPair c =
    rw (c.in-OnPair.is, ← c.register-inner.ensures) (emits_behind c.emit_tested.result _ _ _ _ _ c.in_ok-emit_fetch-in-OnPair.ensures c.emit_tested.ensures)

pub returns-in-OnLeft : goal.returns-in-OnLeft
returns-in-OnLeft c = rw c.in-OnLeft.is c.emit_tested-in-OnLeft.ensures

pub returns-in-OnRight : goal.returns-in-OnRight
returns-in-OnRight c = rw c.in-OnRight.is c.emit_tested-in-OnRight.ensures

pub returns-in-ByResult : goal.returns-in-ByResult
returns-in-ByResult c =
    let rd = c.reg-rd.ensures.value ∙ c.register.ensures in
    rw c.in-ByResult.is (rw (c.register-inner.ensures, rd) at c.emit_op.ensures)

pub returns-in-ByOpposite : goal.returns-in-ByOpposite
returns-in-ByOpposite c =
    let rd = c.reg-rd.ensures.value ∙ c.register.ensures in
    rw c.in-ByOpposite.is (rw (c.register-inner.ensures, rd, c.opposite_op.ensures) at c.emit_op-in-ByOpposite.ensures)

pub returns-in-InResult : goal.returns-in-InResult
returns-in-InResult c = rw c.in-InResult.is (rw c.register-inner.ensures at c.emit_op-in-InResult.ensures)
