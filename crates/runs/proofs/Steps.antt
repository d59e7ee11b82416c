-- Steps, one after another, of any state.
use Rattle.std.proofs.Common.{◌≡◌, ℕ, zero, suc, ◌+◌, refl, ◌∙◌, ap, arith}
use Rattle.runs.specs.Runs.{steps}

pub steps-add : {S : Type 0} (step : S → S) (a b : ℕ) (s : S) → steps step (a + b) s ≡ steps step b (steps step a s)
steps-add step zero b s = let none : 0 + b ≡ b = omega arith in ap (λ n. steps step n s) none
steps-add step (suc a) b s =
    let one : suc a + b ≡ suc (a + b) = omega arith in
    ap (λ n. steps step n s) one ∙ steps-add step a b (step s)

-- a state that a step leaves as it is
pub steps-stay : {S : Type 0} (step : S → S) (n : ℕ) (s : S) → step s ≡ s → steps step n s ≡ s
steps-stay step zero s e = refl
steps-stay step (suc n) s e = ap (λ t. steps step n t) e ∙ steps-stay step n s e

-- what each step keeps
pub steps-keep : {S : Type 0} (Holds : S → Type 0) (step : S → S) → ((s : S) → Holds s → Holds (step s)) → (n : ℕ) (s : S) → Holds s → Holds (steps step n s)
steps-keep Holds step keeps zero s h = h
steps-keep Holds step keeps (suc n) s h = steps-keep Holds step keeps n (step s) (keeps s h)
