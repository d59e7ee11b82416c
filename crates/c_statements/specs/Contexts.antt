-- What is told of a statement in its context.
use Rattle.std.specs.Prelude.{◌≡◌, ℕ, List, Result, Err}
use Rattle.c_tree.specs.Tree.{Statement}
use Rattle.c_typed.specs.declared.tree.TypedStatement.{TypedStatement}
use Rattle.c_typed.specs.Shape.{statement_of}
use Rattle.c_statements.specs.declared.fault.TypeStop.{TypeStop}
use Rattle.c_statements.specs.declared.fault.TypeStop.TheVariants.{NoMemory}
use Rattle.c_statements.specs.declared.statement.Context.{Context}
use Rattle.c_statements.specs.Faults.{Answers}
use Rattle.c_statements.specs.Names.{Scopes, behind}
use Rattle.c_statements.specs.Statements.{FaultyStatement}
use Rattle.c_statements.specs.Types.{TypesStatement}

-- the text that names are spelled in
abbrev pub text_of : Context → List ℕ
text_of at = at.program.now.text.items

-- what a function that types a statement comes to: its answer, and after it the scopes after the statement, unless memory was refused
pub record Typing (at : Context) (before after : Scopes) (s : Statement) (r : Result TypedStatement TypeStop) : Type 0 where
  pub typed : Answers (λ t. TypesStatement (text_of at) before s (statement_of t))
      (FaultyStatement (text_of at) at.gives at.in_loop before s) r
  pub scopes : (r ≡ Err NoMemory → ⊥) → after ≡ behind before s
