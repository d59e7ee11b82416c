-- Words and bytes in hexadecimal digits.
use Rattle.std.specs.Prelude.{ℕ, ◌/◌, ◌%◌, ◌^◌, List, ◌++◌}
use Rattle.mips_isa.specs.Texts.{hex_digit, half_text}

-- eight hexadecimal digits
abbrev pub word_text : ℕ → List ℕ
word_text w = half_text (w / 2 ^ 16) ++ half_text (w % 2 ^ 16)

-- two hexadecimal digits
abbrev pub byte_text : ℕ → List ℕ
byte_text b = hex_digit b 16 ++ hex_digit b 1
