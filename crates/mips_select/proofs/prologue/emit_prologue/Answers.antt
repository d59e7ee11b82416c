use Rattle.std.proofs.Common.{append_assoc}
use Rattle.std.proofs.lemmas.Result.{IfOk-equal}
use Rattle.mips_select.proofs.prologue.emit_prologue.Goals as goal

pub returns : goal.returns
returns c = IfOk-equal c.emit_parameters.result _ _ _ c.emit_parameters.ensures
    (rw (c.in_ok-emit_link.ensures, c.in_ok-emit_words.ensures, c.in_ok-emit_step.ensures, c.as_slice.ensures.value, c.size_of_frame-size.ensures.size)
    (simp append_assoc))
