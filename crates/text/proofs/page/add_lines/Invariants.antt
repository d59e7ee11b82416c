use Rattle.std.proofs.Common.{◌≡◌, ◌++◌, take, All}
use Rattle.text.specs.Shown.{IsShown, shown_text}
use Rattle.text.proofs.page.add_lines.Given as goal

abbrev pub invariant-loop-byte : goal.invariant-loop-byte
invariant-loop-byte l =
    All IsShown l.page.items × (l.page.items ≡ l.fn.page.items ++ shown_text (take l.byte-index l.text))
