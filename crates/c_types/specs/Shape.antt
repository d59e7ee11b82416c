-- A typed program as contracts see it, and its tree.
use Rattle.std.specs.Prelude.{ℕ, List}
use Rattle.c_typed.specs.declared.tree.Function.{Function}
use Rattle.c_typed.specs.declared.tree.Global.{Global}
use Rattle.c_typed.specs.Shape.{functions_of}
use Rattle.c_typed.specs.Trees.{TypedProgram}

pub record TypedParts : Type 0 where
  pub functions : List Function
  pub globals : List Global
  pub main : ℕ

abbrev pub program_of : TypedParts → TypedProgram
program_of p = record { functions = functions_of p.functions; globals = p.globals; main = p.main }
