use Rattle.std.proofs.Common.{◌≡◌, ◌-◌}
use Rattle.c_types.specs.Shape.{program_of}
use Rattle.c_typed.specs.Meaning.{source_run}
use Rattle.c_run.proofs.Explained.{comes_to}
use Rattle.c_run.proofs.places.wrong_place_of.Given as goal

abbrev pub invariant-loop : goal.invariant-loop
invariant-loop l =
    comes_to (program_of l.program) l.depth l.interpreter (l.steps - l.counter) ≡ source_run (program_of l.program) l.depth l.steps
