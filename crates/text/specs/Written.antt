-- What a writer has written: a text, or none where memory was refused.
use Rattle.std.specs.Prelude.{◌≡◌, ℕ, List, ◌++◌, Option, None, MatchOption, IfSome}

-- more comes after what was written, unless memory is refused; where it was refused before, it stays so
abbrev pub Writes : Option (List ℕ) → List ℕ → Option (List ℕ) → Type 0
Writes before more after = MatchOption before (after ≡ None) (λ bytes. IfSome after (λ all. all ≡ bytes ++ more))
