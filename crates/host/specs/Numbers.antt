-- The forms in which the words of a run's output are printed.
use Rattle.std.specs.Prelude.{ℕ, ◌-◌, List, ◌∷◌, ◌++◌, false, codes, decimal, nat_lt, if◌then◌else◌}
use Rattle.std.specs.Fmt.{digits}
use Rattle.host.specs.declared.numbers.WordForm.{WordForm}
use Rattle.host.specs.declared.numbers.WordForm.TheVariants as forms

-- a word in decimal; the same as a number in two's complement of 32 bits (C99 6.2.6.2); `0x` and its digits
abbrev pub word_text : WordForm → ℕ → List ℕ
word_text forms.Unsigned word = decimal word
word_text forms.Signed word = if nat_lt word 2147483648 then decimal word else 45 ∷ decimal (4294967296 - word)
word_text forms.Hex word = codes "0x" ++ digits 16 false word
