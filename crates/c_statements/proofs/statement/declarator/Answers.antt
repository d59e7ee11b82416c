use Rattle.std.proofs.Common.{sym, ◌∙◌}
use Rattle.c_statements.specs.Shape.{scopes_of}
use Rattle.c_statements.proofs.Declarators.{redeclared-first, limit-first}
use Rattle.c_statements.proofs.statement.declarator.Goals as goal

pub returns-then-declares-clause-err : goal.returns-then-declares-clause-err
returns-then-declares-clause-err c =
    rw c.misuse.ensures (redeclared-first c.args.program.now.text.items (scopes_of c.args.scopes.now) c.args.name (sym c.declares.ensures ∙ c.if-declares.true))

pub returns-then-locals-eq-MAX_LOCALS-clause-err : goal.returns-then-locals-eq-MAX_LOCALS-clause-err
returns-then-locals-eq-MAX_LOCALS-clause-err c =
    rw c.misuse-then-locals-eq-MAX_LOCALS.ensures
    (limit-first c.args.program.now.text.items (scopes_of c.args.scopes.now) c.args.name (sym c.declares.ensures ∙ c.if-declares.false)
    (sym c.locals.ensures ∙ c.if-locals-eq-MAX_LOCALS.true))
