use Rattle.std.proofs.Common.{◌≡◌, ◌+◌, ◌-◌, length}
use Rattle.runs.specs.Kept.{places}
use Rattle.runs.proofs.stores.make_room.Given as goal

abbrev pub invariant-loop-words : goal.invariant-loop-words
invariant-loop-words l = places l.words.items ≡ places l.initial.words.items

abbrev pub decreases-loop-words : goal.decreases-loop-words
decreases-loop-words l = l.number + 1 - length l.words.items
