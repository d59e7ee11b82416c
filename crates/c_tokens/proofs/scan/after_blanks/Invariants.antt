use Rattle.std.proofs.Common.{◌≡◌, ◌≤◌, ◌+◌, ◌-◌, length, drop}
use Rattle.c_tokens.specs.Fronts.{blank_length}
use Rattle.c_tokens.proofs.scan.after_blanks.Given as goal

abbrev pub invariant-blanks : goal.invariant-blanks
invariant-blanks l = (l.place + blank_length (drop l.place l.text) ≡ l.at + blank_length (drop l.at l.text)) × (l.place ≤ length l.text)

abbrev pub decreases-blanks : goal.decreases-blanks
decreases-blanks l = length l.text - l.place
