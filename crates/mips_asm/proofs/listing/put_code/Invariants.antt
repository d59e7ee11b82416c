use Rattle.std.proofs.Common.{◌≡◌, ◌+◌, ◌*◌, ◌++◌, drop}
use Rattle.std.specs.String.{string_bytes}
use Rattle.image.specs.Images.{code_base}
use Rattle.mips_asm.specs.Listing.{code_line, lines_at}
use Rattle.mips_asm.proofs.listing.put_code.Given as goal

-- what is written, with what is left
abbrev pub invariant-loop-word : goal.invariant-loop-word
invariant-loop-word l =
    (string_bytes l.out ++ lines_at code_line 4 l.address (drop l.word-index l.code) ≡ string_bytes l.fn.out ++ lines_at code_line 4 code_base l.code)
    × (l.address ≡ code_base + 4 * l.word-index)
