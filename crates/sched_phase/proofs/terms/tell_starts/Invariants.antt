use Rattle.std.proofs.Common.{◌≡◌, ◌+◌, All, length, vec_len}
use Rattle.std.specs.Vec.Iter.{into_iter_items}
use Rattle.term_table.specs.Passes.{IsOf}
use Rattle.sym_exec.specs.Starts.{IsStart}
use Rattle.sched_phase.proofs.terms.tell_starts.Given as goal

abbrev pub invariant-loop-pass : goal.invariant-loop-pass
invariant-loop-pass l = record {
  left : All (IsOf l.table) (into_iter_items l.pass-iterator);
  first : IsOf l.table l.first;
  start : IsStart l.first l.start;
  told : All (λ p. IsOf l.table p × IsStart p l.start) l.told.items;
  count : vec_len l.told + length (into_iter_items l.pass-iterator) + 1 ≡ vec_len l.fn.passes;
}
