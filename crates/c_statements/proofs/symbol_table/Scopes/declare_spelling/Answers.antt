use Rattle.std.proofs.Common.{ap, map}
use Rattle.std.specs.Prelude.{reverse, length}
use mathlib.Core.Path.{fun_ext}
use Rattle.c_statements.specs.Shape.{bindings_of}
use Rattle.c_statements.specs.Names.{Bindings, Scopes}
use Rattle.c_statements.proofs.symbol_table.Scopes.declare_spelling.Goals as goal

pub returns-clause-scopes : goal.returns-clause-scopes
returns-clause-scopes c =
    let f : Bindings
    → Scopes = λ i.
    record { inner = i; around = map bindings_of (reverse c.args.self.now.around.items); locals = length c.args.self.now.locals.items } in
    ap f (fun_ext (λ w. c.in_ok-insert.ensures.updates.0 (record { ref_ptr = c.args.spelling.ref_ptr; now = w })))
