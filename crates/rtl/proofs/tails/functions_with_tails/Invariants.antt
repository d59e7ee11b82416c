use Rattle.std.proofs.Common.{◌≡◌, ◌++◌, List, length}
use Rattle.std.specs.Prelude.{reverse}
use Rattle.rtl.specs.declared.block.RFunc.{RFunc}
use Rattle.rtl.specs.Tails.{HaveTails}
use Rattle.rtl.proofs.tails.functions_with_tails.Given as goal

abbrev pub invariant-loop-function : goal.invariant-loop-function
invariant-loop-function l = (rest : List RFunc) × (l.fn.functions.items ≡ l.functions.items ++ rest) × HaveTails rest (reverse l.made.items)

abbrev pub decreases-loop-function : goal.decreases-loop-function
decreases-loop-function l = length l.functions.items
