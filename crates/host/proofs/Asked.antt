-- What was asked, along equations of the bytes, and what a command did that ended by a fault.
use Rattle.std.proofs.Common.{◌≡◌, ◌≢◌, ◌⊎◌, ℕ, List, [], ◌∷◌, refl, sym, subst}
use Rattle.std.specs.List.{FoldsTo}
use Rattle.host.specs.Requests.{Asks, Does, HostState, IsSent, Meaning, Ran, Relations, Request, StopsMidway, TellsLine, WasRefused}
use Rattle.host.specs.Requests.Request.{Read}
use Rattle.host.specs.Hosts.{RanOn, state_of}
use Rattle.host.specs.declared.one_file.Host.{Host}

module _ {F : Type 0} (answers : F → Request → F → Type 0) where
  pub asked_once : (old new : F) (r : Request) → answers old r new → FoldsTo answers old (r ∷ []) new
  asked_once old new r h = (new, h, refl)

  pub read_as : (old new : F) (name items bytes : List ℕ) → bytes ≡ items → answers old (Read name items) new → answers old (Read name bytes) new
  read_as old new name items bytes e h = subst (λ (t : List ℕ). answers old (Read name t) new) (sym e) h

module _ {F W E : Type 0} (by : Relations F W E) (old new : HostState F W E) where
  -- it asked once, and told a line
  pub asks_once : (r : Request) (text : List ℕ) (Means : (silent refused : Type 0) → List Request → List ℕ → Type 0)
      → by.answers old.files r new.files → TellsLine by.tells old.err text new.err
      → Means (new.out ≡ old.out) (WasRefused by.refuses new.out) (r ∷ []) text → Asks by old new Means
  asks_once r text Means h told means = record {
    requests = r ∷ [];
    text = text;
    asked = asked_once by.answers old.files new.files r h;
    told = told;
    means = means;
  }

  -- it has its answer
  pub ran_answered : (m : Meaning) (status : ℕ) → status ≢ 1 → Does by old new (m.Answers status) → IsSent by.sends new.out
      → Ran by old new m status
  ran_answered m status other does sent = record {
    answered = λ _. does;
    sent = λ _ _. sent;
    stopped = λ one. absurd (other one);
  }

  -- it ended by a fault
  pub ran_stopped : (m : Meaning) (status : ℕ) → status ≡ 1 → Asks by old new m.Stops ⊎ StopsMidway by old new m.Begins
      → Ran by old new m status
  ran_stopped m status one stopped = record {
    answered = λ other. absurd (other one);
    sent = λ other _. absurd (other one);
    stopped = λ _. stopped;
  }

-- it did so over a host whose references stayed
pub on_host : {F W E : Type 0} {by : Relations F W E} {old new : Host F W E} {m : Meaning} {status : ℕ}
    → new.files.ghost_name ≡ old.files.ghost_name → new.out.ghost_name ≡ old.out.ghost_name → new.err.ghost_name ≡ old.err.ghost_name
    → Ran by (state_of old) (state_of new) m status → RanOn by old new m status
on_host files out err ran = record { ran = ran; same = record { files = files; out = out; err = err } }
