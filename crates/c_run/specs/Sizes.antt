-- How much is pending, for the loops that take it apart.
use Rattle.std.specs.Prelude.{ℕ, ◌+◌, List, [], ◌∷◌}
use Rattle.c_typed.specs.Trees.{TypedStatement, TypedStatements, block, no_statements, more_statements}
use Rattle.c_typed.specs.Shape.{statement_of, statements_of}
use Rattle.c_run.specs.declared.pending.Pending.{Pending}
use Rattle.c_run.specs.declared.pending.Pending.TheVariants.{One, Rest, Turn}
use Rattle.c_run.specs.declared.pending.Agenda.{Agenda}
use Rattle.c_run.specs.declared.pending.Head.{Head}
use Rattle.c_run.specs.declared.pending.Head.TheVariants as Heads

abbrev mutual
  pub size : TypedStatement → ℕ
  size (block all) = sizes all + 2
  size s = 1

  pub sizes : TypedStatements → ℕ
  sizes no_statements = 0
  sizes (more_statements s rest) = size s + sizes rest

abbrev pub weight : Pending → ℕ
weight (One s list) = size (statement_of s.now) + sizes (statements_of list.now)
weight (Rest list) = sizes (statements_of list.now) + 1
weight (Turn last again list) = sizes (statements_of list.now) + 1

abbrev pub weights : List Pending → ℕ
weights [] = 0
weights (t ∷ rest) = weight t + weights rest

abbrev pub load : Agenda → ℕ
load a = sizes (statements_of a.list.now) + weights a.behind.items

abbrev pub head_size : Head → ℕ
head_size (Heads.Statement s) = size (statement_of s.now)
head_size _ = 0
