use Rattle.std.proofs.Common.{◌≡◌, ℕ, ◌<◌, get_or, true}
use Rattle.c_front.specs.Texts.{is_text}
use Rattle.c_front.proofs.text.all_text.Given as goal

abbrev pub invariant-bytes : goal.invariant-bytes
invariant-bytes l = l.good ≡ true → (k : ℕ) → k < l.at → is_text (get_or l.text k 0) ≡ true
