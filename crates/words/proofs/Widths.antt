-- What an element keeps of a word is a word.
use Rattle.std.proofs.Common.{ℕ, ◌<◌, ◌^◌, arith}
use Rattle.words.specs.declared.width.Width.{Width}
use Rattle.words.specs.declared.width.Width.TheVariants.{Word, Byte}
use Rattle.words.specs.Words.{wrap}
use Rattle.words.specs.Widths.{kept}

pub wrap_below : (n : ℕ) → wrap n < 2 ^ 32
wrap_below n = omega arith

pub kept_below : (w : Width) (v : ℕ) → v < 2 ^ 32 → kept w v < 2 ^ 32
kept_below Word v h = h
kept_below Byte v h = omega arith
