use Rattle.std.proofs.Common.{◌∙◌, sym, arith}
use Rattle.host.proofs.Places.{offset_ends, offset_found, offset_goes, offset_past}
use Rattle.host.proofs.place.line_offset.Goals.{then-byte-eq10, else-byte-eq10}
use Rattle.host.proofs.place.line_offset.Goals as goal

pub returns-then-line-ends-clause-exact : goal.returns-then-line-ends-clause-exact
returns-then-line-ends-clause-exact c = sym (c.loop-k.invariant ∙ offset_found _ _ _ _ c.if-line-ends.true)

pub loop-k-preserved : goal.loop-k-preserved
loop-k-preserved c = elim c.if-byte-eq10.branch [
  | then-byte-eq10 w ↦ c.loop-k.invariant ∙ offset_ends _ _ _ _ c.loop-k-test.true c.if-line-ends.false _ w.if-byte-eq10.true (omega arith)
  | else-byte-eq10 w ↦ c.loop-k.invariant ∙ offset_goes _ _ _ _ c.loop-k-test.true c.if-line-ends.false _ w.if-byte-eq10.false w.ends-is
]

pub returns-clause-exact : goal.returns-clause-exact
returns-clause-exact c = sym (c.loop-k.invariant ∙ offset_past _ _ _ _ c.loop-k-test.false c.loop-k.auto.k-end)
