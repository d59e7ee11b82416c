use Rattle.std.proofs.Common.{◌≡◌, take}
use Rattle.c_statements.specs.Faults.{Answers}
use Rattle.c_statements.specs.Shape.{scopes_of}
use Rattle.c_types.specs.Programs.{FaultyParameters, behind_parameters}
use Rattle.c_types.proofs.declaration.parameters.Given as goal

abbrev pub invariant-loop-parameter : goal.invariant-loop-parameter
invariant-loop-parameter l =
    (scopes_of l.scopes ≡ behind_parameters l.program.text.items (scopes_of l.initial.scopes) (take l.parameter-index l.all))
    × Answers (λ _. Unit {0}) (FaultyParameters l.program.text.items (scopes_of l.initial.scopes) (take l.parameter-index l.all)) l.fault
