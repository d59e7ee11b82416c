use Rattle.std.proofs.Common.{◌≡◌, ◌++◌, Some, map, drop}
use Rattle.std.specs.Option.{option_map}
use Rattle.rtl.specs.Meaning.{words_in}
use Rattle.runs.specs.Kept.{places}
use Rattle.rtl.proofs.interpreter.arguments.Given as goal

abbrev pub invariant-loop-x : goal.invariant-loop-x
invariant-loop-x l =
    option_map (λ vs. l.values.items ++ map Some vs) (words_in (places l.registers) (drop l.x-index l.all))
    ≡ option_map (map Some) (words_in (places l.registers) l.all)
