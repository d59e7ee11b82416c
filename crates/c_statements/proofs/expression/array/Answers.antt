use Rattle.std.proofs.Common.{rules}
use Rattle.c_statements.specs.Names.{environment_in}
use Rattle.c_statements.specs.Shape.{scopes_of, environment_of}
use Rattle.c_statements.proofs.Uses.{told-first, undeclared-told, index-first}
use Rattle.c_statements.proofs.expression.array.Goals as goal

pub returns-in_err-named : goal.returns-in_err-named
returns-in_err-named c = undeclared-told _ (environment_of c.args.program.now c.args.scopes.now) c.args.name _ _ _ (search rules) c.in_err-named.ensures.err

pub returns-in_default : goal.returns-in_default
returns-in_default c =
    told-first _ _ _ _ _ c.misuse.ensures
    (index-first (environment_in c.args.program.now.text.items (scopes_of c.args.scopes.now)) c.args.name _ c.in_ok-named.ensures.ok c.in_default.not-Array)
