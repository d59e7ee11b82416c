-- Words of 32 bits, as numbers below 2 ^ 32, and their signed reading (two's complement, C99 6.2.6.2).
use Rattle.std.specs.Prelude.{ℕ, ◌%◌, ◌^◌, ℤ}
use Rattle.std.specs.Int.{w32, cast_signed, cast_unsigned}

-- a number modulo 2 ^ 32
abbrev pub wrap : ℕ → ℕ
wrap n = n % 2 ^ 32

-- the signed reading of a word
abbrev pub signed : ℕ → ℤ
signed w = cast_signed w32 w

-- the word with this signed reading
abbrev pub word_of_int : ℤ → ℕ
word_of_int z = cast_unsigned w32 z
