use Rattle.std.proofs.Common.{rules, sym, ◌∙◌}
use Rattle.c_statements.specs.Shape.{scopes_of}
use Rattle.c_types.proofs.Main.{no-main-first}
use Rattle.c_types.proofs.program.has_main.Goals as goal

pub returns-in-None-clause-err : goal.returns-in-None-clause-err
returns-in-None-clause-err c =
    no-main-first c.args.program.now.text.items (scopes_of c.args.scopes.now).inner c.len-at.result (search rules) (sym c.innermost.ensures ∙ c.in-None.is)
