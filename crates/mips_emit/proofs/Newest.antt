-- The first fact on a pseudo-register.
use Rattle.std.proofs.Common.{◌≡◌, ℕ, List, [], ◌∷◌, refl, arith, nat_eq}
use Rattle.std.specs.List.{find}
use Rattle.std.specs.Option.{option_and_then}
use Rattle.std.proofs.lemmas.Bool.Decides.{nat_tests}
use Rattle.mips_emit.specs.declared.facts.Fact.{Fact}
use Rattle.mips_emit.specs.Locations.{known_of}

pub known_found : (facts : List Fact) (x : ℕ) → known_of facts x ≡ option_and_then (λ (f : Fact). f.word) (find (λ (f : Fact). nat_eq x f.register) facts)
known_found [] x = refl
known_found (f ∷ facts) x = grind (arith, nat_tests, known_found facts x)
