use Rattle.std.proofs.Common.{rules, ap, Some, ◌∙◌}
use Rattle.c_statements.specs.declared.names.Named.{Named}
use Rattle.c_statements.specs.Types.{local_place, global_place}
use Rattle.c_statements.specs.Names.{environment_in}
use Rattle.c_statements.specs.Shape.{scopes_of, environment_of}
use Rattle.c_statements.proofs.Uses.{told-first, undeclared-told, value-first}
use Rattle.c_statements.proofs.simple.place.Goals as goal

pub returns-in_err-named : goal.returns-in_err-named
returns-in_err-named c = undeclared-told _ (environment_of c.args.program.now c.args.scopes.now) c.args.name _ _ _ (search rules) c.in_err-named.ensures.err

pub returns-in-Local : goal.returns-in-Local
returns-in-Local c = record { ok = local_place (c.in_ok-named.ensures.ok ∙ ap (λ (m : Named). Some m) c.in-Local.is); none = search rules; err = tt }

pub returns-in-Global : goal.returns-in-Global
returns-in-Global c = record { ok = global_place (c.in_ok-named.ensures.ok ∙ ap (λ (m : Named). Some m) c.in-Global.is); none = search rules; err = tt }

pub returns-in_default : goal.returns-in_default
returns-in_default c =
    told-first _ _ _ _ _ c.misuse.ensures
    (value-first (environment_in c.args.program.now.text.items (scopes_of c.args.scopes.now)) c.args.name _ c.in_ok-named.ensures.ok c.in_default.not-Local c.in_default.not-Global)
