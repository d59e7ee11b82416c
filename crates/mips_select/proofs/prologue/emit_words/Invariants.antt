use Rattle.std.proofs.Common.{◌≡◌, ◌+◌, ◌*◌, ◌++◌, drop}
use Rattle.mips_select.specs.Code.{frame_words}
use Rattle.mips_select.proofs.prologue.emit_words.Given as goal

abbrev pub invariant-loop-r : goal.invariant-loop-r
invariant-loop-r l = (l.place ≡ l.at + 4 * l.r-index)
    × (l.code.items ++ frame_words l.direction l.place (drop l.r-index l.registers) ≡ l.fn.code.items ++ frame_words l.direction l.at l.registers)
