-- Tables of words.
use Rattle.std.proofs.Common.{◌≡◌, ℕ, zero, suc, List, [], None, refl, ap₂}
use Rattle.std.specs.Prelude.{replicate}
use mathlib.Core.Path.{fun_ext}
use Rattle.mips_emit.specs.declared.facts.Fact.{Fact}
use Rattle.mips_emit.specs.Locations.{Facts, word_in, newest, no_facts}

none_in : (n q : ℕ) → word_in (replicate n None) q ≡ None
none_in zero q = refl
none_in (suc n) zero = refl
none_in (suc n) (suc q) = none_in n q

pub nothing : (known : List Fact) → known ≡ []
    → (let f : Facts = record { known = newest known; deferred = word_in (replicate 32 None); kept = None; offset = None } in f) ≡ no_facts
nothing known e = ap₂ (λ k l. (let f : Facts = record { known = newest k; deferred = l; kept = None; offset = None } in f)) e (fun_ext (λ q. none_in 32 q))
