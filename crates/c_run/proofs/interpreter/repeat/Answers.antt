use Rattle.std.proofs.Common.{sym, ◌∙◌}
use Rattle.c_run.proofs.Acts.{loop-fails, loop-ends, loop-turns}
use Rattle.c_run.proofs.interpreter.repeat.Goals as goal

pub returns-in_default : goal.returns-in_default
returns-in_default c = loop-fails c.args.interpreter.now _ _ _ _ c.requires
    (rw (c.deref.ensures.value, c.deref-2.ensures.value) at (sym c.value.ensures ∙ c.in_default.is))

pub returns-else-v-ne0 : goal.returns-else-v-ne0
returns-else-v-ne0 c = loop-ends c.args.interpreter.now _ _ _ _ c.requires c.in-Some.v
    (rw (c.deref.ensures.value, c.deref-2.ensures.value) at (sym c.value.ensures ∙ c.in-Some.is)) c.if-v-ne0.false

pub returns-in_ok-put_turn : goal.returns-in_ok-put_turn
returns-in_ok-put_turn c = loop-turns c.args.interpreter.now _ _ _ _ c.requires c.in-Some.v c.put_turn.new.self
    (rw (c.deref.ensures.value, c.deref-2.ensures.value) at (sym c.value.ensures ∙ c.in-Some.is)) c.if-v-ne0.true c.in_ok-put_turn.ensures
