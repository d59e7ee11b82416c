-- The options of a phase.
use Rattle.std.specs.Prelude.{ℕ}

pub record OptionsOf : Type 0 where
  pub workers : ℕ
  pub nodes : ℕ
  pub heads : ℕ
