-- The first fault of a declarator.
use Rattle.std.proofs.Common.{◌≡◌, ◌≢◌, ℕ, List, Option, Some, None, true, false, is_some, inr, refl, ap, arith}
use Rattle.c_tokens.specs.declared.token.Identifier.{Identifier}
use Rattle.c_statements.specs.declared.fault.TypeFaultKind.{TypeFaultKind}
use Rattle.c_statements.specs.declared.fault.TypeFaultKind.TheVariants.{Redeclared, Limit}
use Rattle.c_statements.specs.declared.names.Named.{Named}
use Rattle.c_statements.specs.Faults.{IsNoLater, IsFirstFault}
use Rattle.c_statements.specs.Names.{Scopes, spelling_in}
use Rattle.c_statements.specs.Statements.{FaultyDeclarator, declared_before, local_too_many}

is-there : (m : Option Named) → is_some m ≡ true → m ≢ None
is-there m h e = let f : is_some m ≡ false = ap is_some e in cc

is-absent : (m : Option Named) → is_some m ≡ false → m ≢ None → ⊥
is-absent None h n = n refl
is-absent (Some a) h n = cc

pub redeclared-first : (text : List ℕ) (sc : Scopes) (x : Identifier) → is_some (sc.inner (spelling_in text x)) ≡ true
    → IsFirstFault (FaultyDeclarator text sc x) Redeclared x.at
redeclared-first text sc x h = record { has = declared_before (is-there _ h); first = λ j n f. least j n f }
  where
    least : (j : TypeFaultKind) (n : ℕ) → FaultyDeclarator text sc x j n → IsNoLater Redeclared x.at j n
    least j n (declared_before i) = inr (refl, omega arith)
    least j n (local_too_many i) = inr (refl, omega arith)

pub limit-first : (text : List ℕ) (sc : Scopes) (x : Identifier) → is_some (sc.inner (spelling_in text x)) ≡ false → sc.locals ≡ 128
    → IsFirstFault (FaultyDeclarator text sc x) Limit x.at
limit-first text sc x h l = record { has = local_too_many l; first = λ j n f. least j n f }
  where
    least : (j : TypeFaultKind) (n : ℕ) → FaultyDeclarator text sc x j n → IsNoLater Limit x.at j n
    least j n (declared_before i) = absurd (is-absent _ h i)
    least j n (local_too_many i) = inr (refl, omega arith)
