-- The two widths that memory is reached by: whole words and bytes (C99 6.2.6.1, `unsigned char`; Kane, LBU and SB).
use Rattle.std.specs.Prelude.{ℕ, ◌+◌, ◌%◌, ◌/◌, ◌^◌}
use Rattle.words.specs.declared.width.Width.{Width}
use Rattle.words.specs.declared.width.Width.TheVariants.{Word, Byte}

-- what an element of this width keeps of a word
abbrev pub kept : Width → ℕ → ℕ
kept Word w = w
kept Byte w = w % 2 ^ 8

-- four bytes are one word, and so are those that are left
abbrev pub words_of_elements : Width → ℕ → ℕ
words_of_elements Word n = n
words_of_elements Byte n = (n + 3) / 4
