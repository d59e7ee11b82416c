-- The scopes and the names in sight that values of the program stand for.
use Rattle.std.specs.Prelude.{ℕ, List, map, reverse, length, bytes_eq}
use Rattle.std.specs.Borrow.{Bor}
use Rattle.std.specs.HashMap.{HashMap, get_by}
use Rattle.c_tree.specs.declared.tree.Program.{Program}
use Rattle.c_statements.specs.declared.names.Named.{Named}
use Rattle.c_statements.specs.declared.symbol_table.Scopes.{Scopes}
use Rattle.c_statements.specs.Names as Names
use Rattle.c_statements.specs.Names.{Bindings, Environment, environment_in}

-- the names of a map
abbrev pub bindings_of : {S : Type 0} → HashMap (Bor (List ℕ)) Named S → Bindings
bindings_of m = λ w. get_by (λ k. bytes_eq w k.now) m

-- the last of the scopes around is the nearest
abbrev pub scopes_of : Scopes → Names.Scopes
scopes_of f = record { inner = bindings_of f.inner; around = map bindings_of (reverse f.around.items); locals = length f.locals.items }

-- what the names in sight stand for
abbrev pub environment_of : Program → Scopes → Environment
environment_of program scopes = environment_in program.text.items (scopes_of scopes)
