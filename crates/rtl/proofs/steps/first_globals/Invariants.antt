use Rattle.std.proofs.Common.{◌≡◌, map, take}
use Rattle.rtl.specs.Meaning.{first_values}
use Rattle.runs.specs.Kept.{arrays}
use Rattle.rtl.proofs.steps.first_globals.Given as goal

abbrev pub invariant-loop-global : goal.invariant-loop-global
invariant-loop-global l = arrays l.all.items ≡ map first_values (take l.global-index l.globals)
