use Rattle.std.proofs.Common.{◌≡◌, ◌≤◌, ◌+◌, ◌-◌, take, length}
use Rattle.sym_exec.specs.Runs.{needed}
use Rattle.sym_exec.proofs.run.shared_counts.Given as goal

abbrev pub invariant-walk : goal.invariant-walk
invariant-walk l = record {
  ours : l.i ≤ length l.insts;
  theirs : l.j ≤ length l.others;
  same : needed (take l.i l.insts) ≡ needed (take l.j l.others);
}

abbrev pub decreases-walk : goal.decreases-walk
decreases-walk l = (length l.insts - l.i) + (length l.others - l.j)
