use Rattle.std.proofs.Common.{◌≡◌, ℕ, ◌<◌, get_or, true}
use Rattle.c_front.specs.Texts.{is_text}
use Rattle.c_front.proofs.text.unreadable.Given as goal

abbrev pub invariant-loop-at : goal.invariant-loop-at
invariant-loop-at l = (k : ℕ) → k < l.at → is_text (get_or l.text k 0) ≡ true
