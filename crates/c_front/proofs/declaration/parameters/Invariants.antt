use Rattle.std.proofs.Common.{◌++◌, length}
use Rattle.c_front.specs.Grammar.{parameters, more_parameters}
use Rattle.c_front.proofs.Steps.{GoesOn}
use Rattle.c_front.proofs.declaration.parameters.Given as goal

abbrev pub invariant-more : goal.invariant-more
invariant-more l = GoesOn parameters more_parameters l.fn.tokens l.rest (λ more. l.all.items ++ more)

abbrev pub decreases-more : goal.decreases-more
decreases-more l = length l.rest
