use Rattle.std.proofs.Common.{take}
use Rattle.c_statements.specs.Shape.{scopes_of}
use Rattle.c_statements.specs.Names.{environment_in}
use Rattle.c_statements.proofs.Arguments.{SoFar}
use Rattle.c_statements.proofs.simple.arguments.Given as goal

abbrev pub invariant-loop-one : goal.invariant-loop-one
invariant-loop-one l = SoFar (environment_in l.program.text.items (scopes_of l.scopes)) (take l.one-index l.all) l.typed
