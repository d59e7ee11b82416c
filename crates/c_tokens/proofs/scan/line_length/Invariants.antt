use Rattle.std.proofs.Common.{length}
use Rattle.c_tokens.proofs.Scanning.{Lines}
use Rattle.c_tokens.proofs.scan.line_length.Given as goal

abbrev pub invariant-line : goal.invariant-line
invariant-line l = Lines l.fn.text l.rest l.n

abbrev pub decreases-line : goal.decreases-line
decreases-line l = length l.rest
