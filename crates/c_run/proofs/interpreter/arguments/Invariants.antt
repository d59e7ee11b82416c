use Rattle.std.proofs.Common.{◌≡◌, ◌++◌, Some, map, drop}
use Rattle.std.specs.Option.{option_map}
use Rattle.c_typed.specs.Shape.{typed_expressions_of}
use Rattle.c_typed.specs.Values.{values_of}
use Rattle.runs.specs.Kept.{places, arrays}
use Rattle.c_run.proofs.interpreter.arguments.Given as goal

abbrev pub invariant-loop-expression : goal.invariant-loop-expression
invariant-loop-expression l =
    option_map (λ vs. l.values.items ++ map Some vs) (values_of (typed_expressions_of (drop l.expression-index l.expressions)) (places l.locals)
    (arrays l.globals)) ≡ option_map (map Some) (values_of (typed_expressions_of l.expressions) (places l.locals) (arrays l.globals))
