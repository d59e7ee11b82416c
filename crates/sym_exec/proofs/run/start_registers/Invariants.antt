use Rattle.std.proofs.Common.{◌≡◌, ℕ, ◌<◌, ◌≤◌, ◌+◌, ◌-◌, length}
use Rattle.term_table.specs.Passes.{linked}
use Rattle.std.specs.Prelude.{slice_index}
use Rattle.sym_exec.specs.MipsTerms.{HasTree}
use Rattle.sym_exec.specs.Symbolic.{register_tree, start_trees}
use Rattle.sym_exec.specs.Interners.{GoesOn}
use Rattle.sym_exec.proofs.run.start_registers.Given as goal

abbrev pub invariant-loop-r : goal.invariant-loop-r
invariant-loop-r l = record {
  goes : GoesOn l.fn.terms l.terms;
  grows : linked l.terms.pass.now + (32 - l.r) ≤ linked l.fn.terms.pass.now + 32;
  count : length l.regs ≡ 32;
  stands : (q : ℕ) → q < l.r → HasTree l.terms.pass.now (slice_index l.regs q) (register_tree start_trees q);
}
