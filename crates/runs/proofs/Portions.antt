-- A portion of a run, one step more at a time.
use Rattle.std.proofs.Common.{◌≡◌, ℕ, suc, ◌+◌, ◌<◌, ◌≤◌, ◌≢◌, ◌⊎◌, inl, inr, Option, None, length, ap, ◌∙◌, arith}
use Rattle.std.specs.Prelude.{IfSome}
use Rattle.runs.specs.Runs.{RunOutcome}
use Rattle.runs.specs.Portions.{WentOn, behind}

below_or : (k n : ℕ) → k < n + 1 → (k < n) ⊎ (k ≡ n + 0)
below_or k n lt = grind arith

module _ {S E : Type 0} (comes_to : S → ℕ → RunOutcome E) (more : E) (asked : ℕ) (old : S) where
  more_before : (s : S) (ran k : ℕ) → WentOn comes_to more asked old s (record { end = None; ran = ran }) → (comes_to s 0).end ≡ more
      → (k < ran) ⊎ (k ≡ ran + 0) → (comes_to old k).end ≡ more
  more_before s ran k went goes (inl less) = went.before k less
  more_before s ran k went goes (inr same) =
      ap (λ i. (comes_to old i).end) same ∙ ap (λ (o : RunOutcome E). o.end) (went.behind 0) ∙ goes

  -- one step more, from where the run would go on
  pub one_more : (s new : S) (end : Option E) (ran : ℕ) → ran < asked → WentOn comes_to more asked old s (record { end = None; ran = ran })
      → (comes_to s 0).end ≡ more → ((n : ℕ) → comes_to s (suc n) ≡ behind comes_to end new n) → IfSome end (λ e. e ≢ more)
      → WentOn comes_to more asked old new (record { end = end; ran = ran + 1 })
  one_more s new end ran lt went goes step other = record {
    within = omega arith;
    before = λ k less. more_before s ran k went goes (below_or k ran less);
    behind = λ n.
        let is : ran + 1 + n ≡ ran + suc n = omega arith in
        ap (comes_to old) is ∙ went.behind (suc n) ∙ step n;
    ended = other;
  }

  -- until so many ran, it held fewer words
  abbrev pub HeldFewer : (outputs ran : ℕ) → Type 0
  HeldFewer outputs ran = (k : ℕ) → 0 < k → k ≤ ran → length (comes_to old k).output < outputs

  to_last : (k n : ℕ) → k ≤ n + 1 → (k ≤ n) ⊎ (k ≡ n + 1 + 0)
  to_last k n le = grind arith

  pub one_more_fewer : (new : S) (outputs ran : ℕ) → WentOn comes_to more asked old new (record { end = None; ran = ran + 1 })
      → length (comes_to new 0).output < outputs → HeldFewer outputs ran → HeldFewer outputs (ran + 1)
  one_more_fewer new outputs ran went fewer held k some le = elim (to_last k ran le) [
    | inl less ↦ held k some less
    | inr same ↦ rw (same, went.behind 0) fewer
  ]
