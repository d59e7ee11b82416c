use Rattle.std.proofs.Common.{All}
use Rattle.text.specs.Shown.{IsTold}
use Rattle.host.proofs.place.add.Given as goal

abbrev pub invariant-loop-byte : goal.invariant-loop-byte
invariant-loop-byte l = All IsTold l.quote.items
