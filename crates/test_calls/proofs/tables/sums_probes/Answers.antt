use Rattle.term_table.proofs.Callers.{extends_more}
use Rattle.sym_exec.proofs.MipsTerms.{still_seen}
use Rattle.test_calls.proofs.tables.sums_probes.Goals as goal

pub loop-m-preserved : goal.loop-m-preserved
loop-m-preserved c = (
  c.in_ok-made.ensures.own,
  still_seen (extends_more c.in_ok-right.ensures.extends c.in_ok-made.ensures.extends) c.in_ok-left.field-0.ticket c.loop-m.invariant.1,
)
