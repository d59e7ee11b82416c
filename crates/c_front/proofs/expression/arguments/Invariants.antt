use Rattle.std.proofs.Common.{◌++◌, length}
use Rattle.c_front.specs.Grammar.{arguments, more_arguments}
use Rattle.c_tree.specs.Shape.{expressions_of}
use Rattle.c_front.proofs.Steps.{GoesOn}
use Rattle.c_front.proofs.expression.arguments.Given as goal

abbrev pub invariant-more : goal.invariant-more
invariant-more l = GoesOn arguments more_arguments l.fn.tokens l.rest (λ more. expressions_of l.all.items ++ more)

abbrev pub decreases-more : goal.decreases-more
decreases-more l = length l.rest
