use Rattle.std.proofs.Common.{take}
use Rattle.std.specs.Io.KnownBytes.{Appends}
use Rattle.text.specs.Shown.{shown_name}
use Rattle.host.proofs.output.print_name.Given as goal

abbrev pub invariant-loop-byte : goal.invariant-loop-byte
invariant-loop-byte g l = Appends (g.W.Write.contents l.fn.out) (g.W.Write.contents l.out) (shown_name (take l.byte-index l.byte-items))
