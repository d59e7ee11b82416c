use Rattle.std.proofs.Common.{length}
use Rattle.c_tokens.proofs.Scanning.{Comments}
use Rattle.c_tokens.proofs.scan.comment_length.Given as goal

abbrev pub invariant-comment : goal.invariant-comment
invariant-comment l = Comments l.fn.text l.rest l.n

abbrev pub decreases-comment : goal.decreases-comment
decreases-comment l = length l.rest
