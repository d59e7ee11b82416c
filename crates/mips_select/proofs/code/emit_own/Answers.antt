use Rattle.std.proofs.Common.{append_assoc}
use Rattle.std.proofs.lemmas.Result.{IfOk-equal}
use Rattle.mips_emit.proofs.Emitted.{insts_behind}
use Rattle.mips_select.proofs.code.emit_own.Goals as goal

pub returns-clause-code : goal.returns-clause-code
returns-clause-code c =
    let last = c.in_ok-last.ensures in
    IfOk-equal c.emit_exit.result _ _ _ c.emit_exit.ensures.code
    (rw (last.code, last.known, last.last, c.asked_of.ensures, c.as_slice.ensures.value, c.clear.ensures)
    (simp (append_assoc, insts_behind)))

pub returns-clause-exit : goal.returns-clause-exit
returns-clause-exit c =
    let last = c.in_ok-last.ensures in
    rw (last.known, last.last, c.asked_of.ensures, c.as_slice.ensures.value, c.clear.ensures) at c.emit_exit.ensures.exit
