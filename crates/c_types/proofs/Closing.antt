-- A statement behind others.
use Rattle.std.proofs.Common.{◌≡◌, List, [], ◌∷◌, ◌++◌, refl, ap, ◌∙◌, Bool, true, false, Option, Some, None}
use Rattle.c_tokens.specs.declared.token.IntegerType.{IntegerType}
use Rattle.c_typed.specs.declared.tree.TypedStatement.{TypedStatement}
use Rattle.c_typed.specs.Shape.{statement_of, statements_of}
use Rattle.c_typed.specs.Trees.{TypedStatements, no_statements, more_statements}
use Rattle.c_types.specs.Programs.{with_last, closing}

pub one-more : (all : List TypedStatement) (s : TypedStatement)
    → statements_of (all ++ s ∷ []) ≡ with_last (statements_of all) (more_statements (statement_of s) no_statements)
one-more [] s = refl
one-more (t ∷ rest) s = ap (more_statements (statement_of t)) (one-more rest s)

none-more : (all : TypedStatements) → all ≡ with_last all no_statements
none-more no_statements = refl
none-more (more_statements t rest) = ap (more_statements t) (none-more rest)

pub closed-main : (new old : List TypedStatement) (s : TypedStatement) (main : Bool) (gives : Option IntegerType) → new ≡ old ++ s ∷ []
    → main ≡ true → more_statements (statement_of s) no_statements ≡ closing true gives
    → statements_of new ≡ with_last (statements_of old) (closing main gives)
closed-main new old s main gives e m c = rw (e, m) (one-more old s ∙ ap (with_last (statements_of old)) c)

pub closed-void : (new old : List TypedStatement) (s : TypedStatement) (main : Bool) (gives : Option IntegerType) → new ≡ old ++ s ∷ []
    → main ≡ false → gives ≡ None → more_statements (statement_of s) no_statements ≡ closing false None
    → statements_of new ≡ with_last (statements_of old) (closing main gives)
closed-void new old s main gives e m g c = rw (e, m, g) (one-more old s ∙ ap (with_last (statements_of old)) c)

pub left-open : (old : List TypedStatement) (main : Bool) (gives : Option IntegerType) (k : IntegerType) → main ≡ false → gives ≡ Some k
    → statements_of old ≡ with_last (statements_of old) (closing main gives)
left-open old main gives k m g = rw (m, g) (none-more (statements_of old))
