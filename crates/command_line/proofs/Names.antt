-- The names of a choice.
use Rattle.std.proofs.Common.{◌≡◌, ℕ, List, Option, Some, None, refl}
use Rattle.command_line.specs.Commands.{IsNamed}

pub named_none : {A : Type 0} (name : A → List ℕ) (a : A) (given : Option (List ℕ)) → given ≡ None → IsNamed name a given a
named_none name a None is = refl
named_none name a (Some text) is = let no : ⊥ = cc in absurd no

pub named_some : {A : Type 0} (name : A → List ℕ) (default a : A) (given : Option (List ℕ)) (text : List ℕ) → given ≡ Some text → text ≡ name a
    → IsNamed name default given a
named_some name default a None text is names = let no : ⊥ = cc in absurd no
named_some name default a (Some t) text is names = cc
