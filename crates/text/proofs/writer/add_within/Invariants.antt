use Rattle.std.proofs.Common.{◌≡◌, ◌++◌, take, All}
use Rattle.text.specs.Shown.{IsShown, shown_name}
use Rattle.text.proofs.writer.add_within.Given as goal

abbrev pub invariant-loop-byte : goal.invariant-loop-byte
invariant-loop-byte l =
    All IsShown l.page.items × (l.page.items ≡ l.fn.page.items ++ shown_name (take l.byte-index l.text))
