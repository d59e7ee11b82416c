use Rattle.std.proofs.Common.{◌++◌, length}
use Rattle.c_front.specs.Grammar.{declarations}
use Rattle.c_tree.specs.Shape.{declarations_of}
use Rattle.c_front.proofs.Steps.{GoesOn}
use Rattle.c_front.proofs.declaration.declarations.Given as goal

abbrev pub invariant-declarations : goal.invariant-declarations
invariant-declarations l = GoesOn declarations declarations l.fn.tokens l.rest (λ more. declarations_of l.all.items ++ more)

abbrev pub decreases-declarations : goal.decreases-declarations
decreases-declarations l = length l.rest
