-- What a function that splits a list among threads says of each part.
use Rattle.std.specs.Prelude.{ℕ, List}
use Rattle.std.specs.Fork.{ChangesEach}
use denote.Ref.{MutBor}
use denote.Param.Members.{Shared}

-- each value is what a call of f left of the one that stood there
pub record LeavesEach {F T : Type 0} (g : Shared F (ℕ × (MutBor T × Unit {0})) ((Unit {0}) × (MutBor T × Unit {0}))) (f : F) (old new : List T) : Type 0 where
  pub each : ChangesEach g f old new
