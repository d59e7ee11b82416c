-- Places in a text whose lines end by line feeds. Lines and columns are counted from 1, and columns in bytes.
use Rattle.std.specs.List.{take_while}
use Rattle.std.specs.Prelude.{ℕ, length, reverse, not, ◌+◌, ◌-◌, zero, suc, List, [], ◌∷◌, Bool, take, count_by, nat_eq, if◌then◌else◌}

abbrev pub is_line_feed : ℕ → Bool
is_line_feed byte = nat_eq byte 10

-- the line of an offset: one more than the line feeds before it
abbrev pub line_at : List ℕ → ℕ → ℕ
line_at text at = 1 + count_by is_line_feed (take at text)

-- how many bytes so many lines have, with their line feeds; all, where there are fewer lines
abbrev pub lines_length : ℕ → List ℕ → ℕ
lines_length n [] = 0
lines_length zero (byte ∷ rest) = 0
lines_length (suc n) (byte ∷ rest) = 1 + (if is_line_feed byte then lines_length n rest else lines_length (suc n) rest)

-- where a line begins: after all lines before it
abbrev pub line_start : List ℕ → ℕ → ℕ
line_start text line = lines_length (line - 1) text

-- how many bytes come before an offset since the last line feed
abbrev pub bytes_in_line : List ℕ → ℕ → ℕ
bytes_in_line text at = length (take_while (λ byte. not (is_line_feed byte)) (reverse (take at text)))

abbrev pub column_at : List ℕ → ℕ → ℕ
column_at text at = 1 + bytes_in_line text at
