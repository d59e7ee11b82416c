use Rattle.std.proofs.Common.{◌≡◌, map, take}
use Rattle.c_typed.specs.Meaning.{first_words}
use Rattle.runs.specs.Kept.{arrays}
use Rattle.c_run.proofs.steps.first_globals.Given as goal

abbrev pub invariant-loop-global : goal.invariant-loop-global
invariant-loop-global l = arrays l.globals.items ≡ map first_words (take l.global-index l.program.globals)
