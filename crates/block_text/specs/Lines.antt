-- Bytes as lines.
use Rattle.std.specs.List.{onto_first}
use Rattle.std.specs.Prelude.{ℕ, List, [], ◌∷◌, Bool, true, false, ◌==◌, if◌then◌else◌}

-- whether the byte stands nowhere in the text
abbrev pub lacks : ℕ → List ℕ → Bool
lacks c [] = true
lacks c (x ∷ xs) = (if x == c then false else lacks c xs)

-- the lines of a text: each ends with a line feed, which the last may lack if it isn't empty
abbrev pub lines_of : List ℕ → List (List ℕ)
lines_of [] = []
lines_of (x ∷ xs) = (if x == 10 then [] ∷ lines_of xs else onto_first x (lines_of xs))
