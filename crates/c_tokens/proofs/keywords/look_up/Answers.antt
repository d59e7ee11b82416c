use Rattle.std.proofs.Common.{sym, ◌∙◌}
use Rattle.c_tokens.proofs.Beginning.{look_further}
use Rattle.c_tokens.proofs.keywords.look_up.Goals as goal

pub returns-then-eq : goal.returns-then-eq
returns-then-eq c = sym (c.loop-entry.invariant ∙ look_further c.args.table.now _ _ _ _ c.loop-entry-test.true (c.if-eq.ensures))

pub loop-entry-preserved : goal.loop-entry-preserved
loop-entry-preserved c = c.loop-entry.invariant ∙ look_further c.args.table.now _ _ _ _ c.loop-entry-test.true (c.if-eq.ensures)
