-- What was told first stands at the front.
use Rattle.std.proofs.Common.{◌≡◌, ◌≢◌, arith, ℕ, List, [], ◌∷◌, ◌++◌, true, sym, ap, subst, ◌∙◌, append_assoc}
use Rattle.std.proofs.lemmas.List.{append-nil}
use Rattle.std.specs.List.{FoldsTo}
use Rattle.host.specs.Requests.{TellsLine}
use Rattle.mcc_web.specs.Answers.{Gives, GivesLine, SaysFault}
use Rattle.mcc_web.specs.Telling.{Tells}
use Rattle.mcc_web.specs.declared.told.Told.{Told}
use Rattle.mcc_web.specs.declared.told.TheConstants.{REFUSED}

-- where all of it was told in the end, it was from the beginning, and nothing of it is lost
whole_front : (more : List (List ℕ)) (old new : Told) → FoldsTo Tells old more new → new.is_whole ≡ true
    → (rest : List ℕ) × (old.is_whole ≡ true) × (new.lines.items ≡ old.lines.items ++ rest)
whole_front [] old new e whole =
    ([], ap (λ (t : Told). t.is_whole) e ∙ whole, sym (ap (λ (t : Told). t.lines.items) e) ∙ sym (append-nil old.lines.items))
whole_front (bytes ∷ more) old new told whole =
    let later = whole_front more told.0 new told.2 whole in
    let first = told.1 later.1 in
    (bytes ++ later.0, first.0, later.2 ∙ ap (λ (t : List ℕ). t ++ later.0) first.1 ∙ append_assoc old.lines.items bytes later.0)

line_front : (line : List ℕ) (old new : Told) → old.lines.items ≡ [] → TellsLine Tells old line new → new.is_whole ≡ true
    → (more : List ℕ) × (new.lines.items ≡ line ++ 10 ∷ more)
line_front line old new empty told whole =
    let after = whole_front told.0 told.1.0 new told.1.2 whole in
    let first = told.1.1 after.1 in (
      after.0,
      after.2 ∙ ap (λ (t : List ℕ). t ++ after.0) (first.1 ∙ ap (λ (t : List ℕ). t ++ (line ++ 10 ∷ [])) empty)
          ∙ append_assoc line (10 ∷ []) after.0,
    )

-- all that was told is given to the host
line_given : (line : List ℕ) (old new : Told) (said : ℕ) (before after : List ℕ) → old.lines.items ≡ [] → TellsLine Tells old line new
    → new.is_whole ≡ true → Gives new.lines.items said before after → GivesLine line said before after
line_given line old new said before after empty told whole gives =
    let front = line_front line old new empty told whole in
    (front.0, subst (λ (t : List ℕ). Gives t said before after) front.1 gives)

fault_is_told : (status : ℕ) → status ≡ 1 → status ≢ REFUSED
fault_is_told status one refused = omega arith

-- a fault was told, and all that was told is given to the host
pub fault_given : {F : Type 0} (found : F → Type 0) (line : F → List ℕ) (fault : F) (old new : Told) (status before_status said : ℕ)
    (before after : List ℕ) → found fault → old.lines.items ≡ [] → TellsLine Tells old (line fault) new
    → (status ≢ REFUSED → (new.is_whole ≡ true) × (status ≡ before_status) × Gives new.lines.items said before after) → status ≡ 1
    → SaysFault found line said before after
fault_given found line fault old new status before_status said before after is empty told given one =
    let gives = given (fault_is_told status one) in
    record {
      fault = fault;
      is = is;
      gives = line_given (line fault) old new said before after empty told gives.0 gives.2;
    }
