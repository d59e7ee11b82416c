use Rattle.std.proofs.Common.{[], ◌∷◌}
use Rattle.mips_isa.specs.declared.inst.ShiftOp.TheVariants.{Sll}
use Rattle.mips_isa.specs.declared.inst.Plain.TheVariants.{Shift}
use Rattle.mips_emit.proofs.Prefixes.{emits_behind}
use Rattle.mips_emit.proofs.element.emit_base.Goals as goal

pub returns-in_ok-emit_one-in-Word : goal.returns-in_ok-emit_one-in-Word
returns-in_ok-emit_one-in-Word c =
    rw c.in-Word.is (emits_behind c.emit_sum.result _ _ _ (Shift Sll c.args.t c.args.index 2 ∷ []) _
    (rw (c.shift.ensures, c.reg.ensures.value) at c.in_ok-emit_one-in-Word.ensures) (rw c.reg-in-Word.ensures.value at c.emit_sum.ensures))
