-- What memory holds at the start, by a few numbers.
use Rattle.std.specs.Prelude.{ℕ, ◌+◌, ◌*◌, ◌/◌, ◌%◌, ◌^◌, bit_and}
use Rattle.words.specs.Words.{wrap}
use Rattle.mips_isa.specs.States.{byte_of}
use Rattle.counterexample.specs.declared.filling.Filling.{Filling}

-- the word with a number: the base and some bits of a number that depends on the word's
unfoldable pub filled_word : Filling → ℕ → ℕ
filled_word f number = wrap (f.base + bit_and (wrap (wrap (number * f.factor) + f.offset) / 2 ^ 8) f.mask)

abbrev pub filled_byte : Filling → ℕ → ℕ
filled_byte f a = byte_of (filled_word f (a / 4)) (a % 4)
