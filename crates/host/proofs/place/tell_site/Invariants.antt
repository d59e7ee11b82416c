use Rattle.std.proofs.Common.{All}
use Rattle.host.specs.Requests.{TellsBeside}
use Rattle.text.specs.Shown.{IsTold}
use Rattle.host.proofs.place.tell_site.Given as goal

abbrev pub invariant-loop-byte : goal.invariant-loop-byte
invariant-loop-byte g l = TellsBeside g.E.Complaints.tells l.fn.err (All (All IsTold)) l.err
