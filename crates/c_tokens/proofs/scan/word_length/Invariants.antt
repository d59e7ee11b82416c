use Rattle.std.proofs.Common.{length, drop, ◌-◌}
use Rattle.c_tokens.proofs.Scanning.{Words}
use Rattle.c_tokens.proofs.scan.word_length.Given as goal

abbrev pub invariant-word : goal.invariant-word
invariant-word l = Words l.text (drop l.n l.text) l.n

abbrev pub decreases-word : goal.decreases-word
decreases-word l = length l.text - l.n
