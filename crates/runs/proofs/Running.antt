-- A run that takes one step after another: what its loop keeps, and how it ends.
use Rattle.std.proofs.Common.{◌≡◌, ℕ, suc, ◌+◌, ◌-◌, ◌<◌, ◌≤◌, List, Result, Ok, Some, None, MutBor, refl, sym, ◌∙◌, ap, arith}
use Rattle.std.proofs.lemmas.Option.{same_Some}
use Rattle.runs.specs.declared.ran.End.{End}
use Rattle.runs.specs.declared.ran.End.TheVariants.{Done, Wrong}
use Rattle.runs.specs.declared.reached.Reached.{Reached}
use Rattle.runs.specs.declared.reached.Reached.TheVariants.{Going, Ended, Failed}
use Rattle.runs.specs.Runs as Runs
use Rattle.runs.specs.Runs.{Outcome, Configuration, outcome, steps}
use Rattle.runs.specs.Steps.{IsKept, GoesOnFromWhereItIs, end_of, after_step, outcome_after, unfinished}
use Rattle.runs.specs.Results.{IsRunBy}
use Rattle.runs.specs.Calls.{state_by, reached_by}
use Rattle.runs.specs.declared.interpreter.Interpreter.{Interpreter}
use Rattle.runs.proofs.Steps.{steps-add, steps-stay, steps-keep}

pub is-kept : {S : Type 0} (Holds : S → Type 0) (next : S → S) (first : S) → Holds first → ((s : S) → Holds s → Holds (next s)) → IsKept Holds next first
is-kept Holds next first h keeps = record { start = h; step = keeps; reached = λ n. steps-keep Holds next keeps n first h }

-- a step leaves a run that is over as it is
pub record Stays {Call : Type 0} (step : Configuration Call → Configuration Call) : Type 0 where
  pub ended : (w : ℕ) (out : List ℕ) → step (Runs.Ended w out) ≡ Runs.Ended w out
  pub failed : (out : List ℕ) → step (Runs.Failed out) ≡ Runs.Failed out

pub goes-on-from-where-it-is : {Call : Type 0} (step : Configuration Call → Configuration Call) → Stays step → GoesOnFromWhereItIs step
goes-on-from-where-it-is step stays = record {
  sum = λ a b s. steps-add step a b s;
  ended = λ n w out. steps-stay step n (Runs.Ended w out) (stays.ended w out);
  failed = λ n out. steps-stay step n (Runs.Failed out) (stays.failed out);
}

-- what so many steps come to, by the first of them
pub by-step : {Call : Type 0} (step : Configuration Call → Configuration Call) (s t : Configuration Call) (r : Reached) (out : List ℕ) → Stays step
    → step s ≡ after_step r t out → (n : ℕ) → outcome (steps step (suc n) s) ≡ outcome_after r (outcome (steps step n t)) out
by-step step s t Going out stays is n = ap (λ s. outcome (steps step n s)) is
by-step step s t (Ended w) out stays is n =
    ap (λ s. outcome (steps step n s)) is ∙ ap outcome (steps-stay step n (Runs.Ended w out) (stays.ended w out))
by-step step s t Failed out stays is n =
    ap (λ s. outcome (steps step n s)) is ∙ ap outcome (steps-stay step n (Runs.Failed out) (stays.failed out))

-- one step less is left
one-less : (old : ℕ → Outcome) (n i : ℕ) → i < n → old (n - i) ≡ old (suc (n - (i + 1)))
one-less old n i lt =
    let one : n - i ≡ suc (n - (i + 1)) = omega arith in
    ap old one

-- after i of n steps, what is left of them comes to the same as all of them; one step more goes on so, or ends the run
pub goes-on : (old new : ℕ → Outcome) (whole : Outcome) (n i : ℕ) (r : Reached) (out : List ℕ) → i < n → old (n - i) ≡ whole
    → ((k : ℕ) → old (suc k) ≡ outcome_after r (new k) out) → end_of r ≡ None → new (n - (i + 1)) ≡ whole
goes-on old new whole n i Going out lt left step e = sym (step (n - (i + 1))) ∙ sym (one-less old n i lt) ∙ left
goes-on old new whole n i _ out lt left step e = cc

pub ends : (old new : ℕ → Outcome) (whole : Outcome) (n i : ℕ) (r : Reached) (out : List ℕ) (end : End) → i < n → old (n - i) ≡ whole
    → ((k : ℕ) → old (suc k) ≡ outcome_after r (new k) out) → end_of r ≡ Some end → record { end = end; output = out } ≡ whole
ends old new whole n i Going out end lt left step e = cc
ends old new whole n i (Ended w) out end lt left step e =
    ap (λ (end : End). record { end = end; output = out }) (sym (same_Some (Done w) end e)) ∙ sym (step (n - (i + 1))) ∙ sym (one-less old n i lt) ∙ left
ends old new whole n i Failed out end lt left step e =
    ap (λ (end : End). record { end = end; output = out }) (sym (same_Some Wrong end e)) ∙ sym (step (n - (i + 1))) ∙ sym (one-less old n i lt) ∙ left

pub bound-reached : (old : ℕ → Outcome) (whole : Outcome) (n i : ℕ) (out : List ℕ) → n ≤ i → old (n - i) ≡ whole → old 0 ≡ unfinished out
    → unfinished out ≡ whole
bound-reached old whole n i out le left none =
    let none-left : n - i ≡ 0 = omega arith in
    sym none ∙ ap old (sym none-left) ∙ left

-- so many steps of an interpreter, each by this relation, come to what as many of the configuration come to that it stands for
pub comes-to : {F E Call : Type 0} {Step : MutBor (Interpreter F) → MutBor (Interpreter F) → Result Reached E → Type 0} (call_of : F → Call)
    (step : Configuration Call → Configuration Call) (start : Configuration Call) (m : Interpreter F) (n : ℕ) (o : Outcome) → Stays step
    → start ≡ state_by call_of m
    → ((p q : MutBor (Interpreter F)) (r : Reached) → Step p q (Ok r) → step (state_by call_of p.now) ≡ reached_by call_of r q.now)
    → ((comes_to : Interpreter F → ℕ → Outcome) → IsRunBy Step comes_to → o ≡ comes_to m n) → o ≡ outcome (steps step n start)
comes-to call_of step start m n o stays is each h =
    h (λ m n. outcome (steps step n (state_by call_of m))) (record {
      without_steps = λ m. refl;
      by_step = λ p q r s. by-step step (state_by call_of p.now) (state_by call_of q.now) r q.now.output.items stays (each p q r s);
    }) ∙ ap (λ s. outcome (steps step n s)) (sym is)
