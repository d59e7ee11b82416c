use Rattle.std.proofs.Common.{All}
use Rattle.text.specs.Shown.{IsShown}
use Rattle.text.proofs.page.Page.cut.Given as goal

abbrev pub invariant-loop-k : goal.invariant-loop-k
invariant-loop-k l = All IsShown l.page.items
