use Rattle.std.proofs.Common.{length, drop, ◌-◌}
use Rattle.c_tokens.proofs.Scanning.{Runs}
use Rattle.c_tokens.proofs.scan.run_length.Given as goal

abbrev pub invariant-run : goal.invariant-run
invariant-run l = Runs l.text (drop l.n l.text) l.after_exponent l.n

abbrev pub decreases-run : goal.decreases-run
decreases-run l = length l.text - l.n
