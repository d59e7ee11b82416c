use Rattle.std.proofs.Common.{◌≡◌, ◌+◌, ◌++◌, drop}
use Rattle.std.specs.String.{string_bytes}
use Rattle.mips_asm.specs.Listing.{byte_line, lines_at}
use Rattle.mips_asm.proofs.listing.put_bytes.Given as goal

-- what is written, with what is left
abbrev pub invariant-loop-byte : goal.invariant-loop-byte
invariant-loop-byte l =
    (string_bytes l.out ++ lines_at byte_line 1 l.address (drop l.byte-index l.bytes) ≡ string_bytes l.fn.out ++ lines_at byte_line 1 l.first l.bytes)
    × (l.address ≡ l.first + l.byte-index)
