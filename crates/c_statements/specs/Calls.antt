-- What a call goes to.
use Rattle.std.specs.Prelude.{ℕ, Option, Some, Bool, false}
use Rattle.c_statements.specs.declared.names.Named.{Named}
use Rattle.c_statements.specs.declared.names.Named.TheVariants.{Function, Out}
use Rattle.c_statements.specs.declared.call.Target.{Target}
use Rattle.c_statements.specs.declared.call.Target.TheVariants.{Function as ToFunction, Out as ToOut}

-- the function that a name means, as the target of a call
pub data IsTarget : Option Named → Target → Type 0 where
  function_target : {f n : ℕ} {r : Bool} → IsTarget (Some (Function f n r)) (ToFunction f)
  out_target : IsTarget (Some Out) ToOut

-- what is known of a function: its target, the number of its parameters, whether it gives a result
pub data Signs : Named → Target → ℕ → Bool → Type 0 where
  function_signs : {f n : ℕ} {r : Bool} → Signs (Function f n r) (ToFunction f) n r
  out_signs : Signs Out ToOut 1 false

abbrev pub IsNoFunction : Named → Type 0
IsNoFunction (Function f n r) = ⊥
IsNoFunction Out = ⊥
IsNoFunction _ = Unit {0}
