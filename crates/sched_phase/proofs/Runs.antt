-- The verdicts of blocks one after another.
use Rattle.std.proofs.Common.{◌≡◌, ℕ, suc, ◌+◌, List, ◌∷◌, refl, subst, arith}
use Rattle.mblock.specs.Parts.{BlockParts}
use Rattle.block_validator.specs.declared.verdict.Verdict.{Verdict}
use Rattle.sched_phase.specs.Phases.{Proposals, IsRightFor}
use Rattle.sched_phase.specs.Settling.{AreRightFrom}

module _ (proposes : Proposals) (blocks : List BlockParts) where
  pub right_first : (n : ℕ) (v : Verdict) (vs : List Verdict) → AreRightFrom proposes blocks n (v ∷ vs) → IsRightFor proposes blocks n v
  right_first n v vs h = subst (λ i. IsRightFor proposes blocks i v) (omega (arith)) (h 0 v refl)

  pub right_rest : (n m : ℕ) (v : Verdict) (vs : List Verdict) → m ≡ n + 1 → AreRightFrom proposes blocks n (v ∷ vs) → AreRightFrom proposes blocks m vs
  right_rest n m v vs e h k u at = subst (λ i. IsRightFor proposes blocks i u) (omega (arith, e)) (h (suc k) u at)
