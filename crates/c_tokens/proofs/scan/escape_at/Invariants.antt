use Rattle.std.proofs.Common.{length}
use Rattle.c_tokens.proofs.Scanning.{Escapes}
use Rattle.c_tokens.proofs.scan.escape_at.Given as goal

abbrev pub invariant-escape : goal.invariant-escape
invariant-escape l = Escapes l.fn.text l.rest l.n

abbrev pub decreases-escape : goal.decreases-escape
decreases-escape l = length l.rest
