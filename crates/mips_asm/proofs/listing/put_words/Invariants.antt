use Rattle.std.proofs.Common.{◌≡◌, ◌+◌, ◌-◌, ◌*◌, ◌≤◌, ◌++◌, length}
use Rattle.std.specs.String.{string_bytes}
use Rattle.mips_isa.specs.Starting.{data_base}
use Rattle.image.specs.Images.{words_of}
use Rattle.mips_asm.specs.Listing.{word_line, lines_at}
use Rattle.mips_asm.proofs.listing.put_words.Given as goal

-- what is written, with what is left
abbrev pub invariant-loop : goal.invariant-loop
invariant-loop l =
    (string_bytes l.out ++ lines_at word_line 4 l.address (words_of (l.count - l.counter) l.rest)
    ≡ string_bytes l.fn.out ++ lines_at word_line 4 data_base (words_of l.count l.bytes))
    × (l.address ≡ data_base + 4 * l.counter) × (4 * (l.count - l.counter) ≤ length l.rest)
