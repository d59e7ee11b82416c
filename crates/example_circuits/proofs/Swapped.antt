-- A gate whose inputs may be swapped means the same both ways round.
use Rattle.std.proofs.Common.{◌≡◌, ℕ, Bool, List, [], ◌∷◌, Option, Some, None, sym, subst, ⊎_elim}
use Rattle.std.specs.Prelude.{IfSome, ◌⊎◌}
use Rattle.term_table.specs.Passes.{PassState}
use Rattle.term_table.specs.Meanings.{Means, AllMean}
use Rattle.term_table.proofs.Meanings.{means_as, none_mean, first_means}
use Rattle.example_circuits.specs.declared.gate.Gate.{Gate}
use Rattle.example_circuits.specs.Meaning.{Inputs, made, gates, Commutes}

both_mean : {p : PassState} {t u : ℕ} {f g : Inputs → Bool} → Means gates p t f → Means gates p u g
    → AllMean gates p (t ∷ u ∷ []) (λ e. f e ∷ g e ∷ [])
both_mean {p} {t} {u} {f} {g} h k = first_means h (first_means k none_mean)

if_same : (p : PassState) (f g : Inputs → Bool) (r : Option ℕ) → ((e : Inputs) → f e ≡ g e) → IfSome r (λ t. Means gates p t f)
    → IfSome r (λ t. Means gates p t g)
if_same p f g (Some t) same h = means_as same h
if_same p f g None same h = tt

pub swapped : {p : PassState} {t u : ℕ} (q : PassState) (gate : Gate) (pair : ℕ × ℕ) (r : Option ℕ) (f g : Inputs → Bool) → Commutes gate
    → ((pair ≡ (t, u)) ⊎ (pair ≡ (u, t)))
    → ((fs : Inputs → List Bool) → AllMean gates p (pair.0 ∷ pair.1 ∷ []) fs → IfSome r (λ v. Means gates q v (λ e. made gate e (fs e))))
    → Means gates p t f → Means gates p u g → IfSome r (λ v. Means gates q v (λ e. made gate e (f e ∷ g e ∷ [])))
swapped {p} {t} {u} q gate pair r f g commutes same make h k =
    let all = λ (x : ℕ × ℕ) (fs : Inputs → List Bool). AllMean gates p (x.0 ∷ x.1 ∷ []) fs in
    ⊎_elim
    (λ e. make (λ i. f i ∷ g i ∷ []) (subst (λ x. all x (λ i. f i ∷ g i ∷ [])) (sym e) (both_mean h k)))
    (λ e. if_same q _ _ r (λ i. commutes i (g i) (f i)) (make (λ i. g i ∷ f i ∷ []) (subst (λ x. all x (λ i. g i ∷ f i ∷ [])) (sym e) (both_mean k h))))
    same
