-- A text read up to some place.
use Rattle.std.proofs.Common.{◌≡◌, ◌∙◌, ℕ, ◌+◌, inl, inr, List, [], ◌∷◌, ◌++◌, Some, None, length, sym, ap, subst, arith}
use Rattle.std.proofs.lemmas.List.{append_assoc, append-nil, length-append, take_at}
use Rattle.mblock.specs.Parts.{BlockParts, OrderParts}
use Rattle.block_text.specs.Lines.{lines_of}
use Rattle.block_text.specs.Whole.{SpellsPair, FailsAt}
use Rattle.block_text.specs.StageParts.{StageParts, AtBlock, Done, Steps, LeadsTo}
use Rattle.block_text.proofs.Runs.{Runs, runs_split, spelled_runs}
use Rattle.block_text.proofs.Stood.{Stood, stood_steps, begins}

-- count lines were read, the reader stands at p, and rest is what follows
pub record Reading (text rest : List ℕ) (count : ℕ) (p : StageParts) : Type 0 where
  pub seen : List (List ℕ)
  pub whole : lines_of text ≡ seen ++ lines_of rest
  pub counted : length seen ≡ count
  pub stood : Stood p seen
  pub only : (q : StageParts) → Runs AtBlock seen q → q ≡ p

pub reading_step : (text rest after l : List ℕ) (n : ℕ) (p q : StageParts) → Reading text rest n p → lines_of rest ≡ l ∷ lines_of after
    → LeadsTo p l (Some q) → Reading text after (n + 1) q
reading_step text rest after l n p q r e s = record {
  seen = r.seen ++ l ∷ [];
  whole = r.whole ∙ ap (λ xs. r.seen ++ xs) e ∙ sym (append_assoc r.seen (l ∷ []) (lines_of after));
  counted = omega (arith, length-append r.seen (l ∷ []), r.counted);
  stood = stood_steps p q r.seen l r.stood s.0;
  only = λ x run.
      let parts = runs_split r.seen (l ∷ []) AtBlock x run in
      sym parts.2.2 ∙ s.1 parts.2.0 (subst (λ (y : StageParts). Steps y l parts.2.0) (r.only parts.0 parts.1) parts.2.1);
}

-- no text of a block and an order begins with the lines up to one that leads nowhere
no_start : (seen more : List (List ℕ)) (l : List ℕ) (p : StageParts) (b : BlockParts) (o : OrderParts)
    → ((q : StageParts) → Runs AtBlock seen q → q ≡ p) → ((q : StageParts) → Steps p l q → ⊥) → SpellsPair (seen ++ l ∷ more) b o → ⊥
no_start seen more l p b o only none s =
    let parts = runs_split seen (l ∷ more) AtBlock (Done b o) (spelled_runs (seen ++ l ∷ more) b o s) in
    none parts.2.0 (subst (λ (y : StageParts). Steps y l parts.2.0) (only parts.0 parts.1) parts.2.1)

pub fails_here : (text rest after l : List ℕ) (n : ℕ) (p : StageParts) → Reading text rest n p → lines_of rest ≡ l ∷ lines_of after → LeadsTo p l None
    → FailsAt (lines_of text) n
fails_here text rest after l n p r e none =
    let whole : lines_of text ≡ r.seen ++ l ∷ lines_of after = r.whole ∙ ap (λ xs. r.seen ++ xs) e in
    let split : lines_of text ≡ (r.seen ++ l ∷ []) ++ lines_of after = whole ∙ sym (append_assoc r.seen (l ∷ []) (lines_of after)) in
    let long : length (r.seen ++ l ∷ []) ≡ n + 1 = omega (arith, length-append r.seen (l ∷ []), r.counted) in
    let size = ap length whole in (
      rw (whole, take_at r.seen (l ∷ lines_of after) n r.counted) (begins p r.seen r.stood),
      inl (
        omega (arith, size, length-append r.seen (l ∷ lines_of after), r.counted),
        λ h.
            let k = rw (split, take_at (r.seen ++ l ∷ []) (lines_of after) (n + 1) long) at h in
            no_start r.seen k.0 l p k.1 k.2 r.only none (rw (append_assoc r.seen (l ∷ []) k.0) at k.3),
      ),
    )

-- a text that is spelled doesn't fail
pub no_fail : (text rest after l : List ℕ) (n : ℕ) (p : StageParts) (b : BlockParts) (o : OrderParts) → Reading text rest n p
    → lines_of rest ≡ l ∷ lines_of after → LeadsTo p l None → SpellsPair (lines_of text) b o → ⊥
no_fail text rest after l n p b o r e none s =
    no_start r.seen (lines_of after) l p b o r.only none (rw (r.whole ∙ ap (λ xs. r.seen ++ xs) e) at s)

all_seen : (text : List ℕ) (n : ℕ) (p : StageParts) (r : Reading text [] n p) → lines_of text ≡ r.seen
all_seen text n p r = r.whole ∙ append-nil r.seen

pub is_done : (text : List ℕ) (n : ℕ) (p : StageParts) (b : BlockParts) (o : OrderParts) → Reading text [] n p → SpellsPair (lines_of text) b o → Done b o ≡ p
is_done text n p b o r s = r.only (Done b o) (spelled_runs r.seen b o (rw (all_seen text n p r) at s))

pub ends_early : (text : List ℕ) (n : ℕ) (p : StageParts) → Reading text [] n p → ((b : BlockParts) (o : OrderParts) → Done b o ≡ p → ⊥)
    → FailsAt (lines_of text) n
ends_early text n p r not_done =
    let all = all_seen text n p r in (
      rw (r.whole, take_at r.seen [] n r.counted) (begins p r.seen r.stood),
      inr (sym r.counted ∙ ap length (sym all), λ b o s. not_done b o (is_done text n p b o r s)),
    )
