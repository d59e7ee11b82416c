use Rattle.std.proofs.Common.{◌≡◌, ◌+◌, ◌-◌, drop}
use Rattle.host.specs.Places.{line_start, lines_length}
use Rattle.host.proofs.place.line_offset.Given as goal

abbrev pub invariant-loop-k : goal.invariant-loop-k
invariant-loop-k l = line_start l.text l.line ≡ l.k + lines_length (l.line - l.ends) (drop l.k l.text)
