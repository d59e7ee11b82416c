-- What is known of a part is known of it with the mark behind it, and in a box.
use Rattle.std.proofs.Common.{◌≡◌, List, Result, Ok, Err, IfOk, IfErr, IsErrAnd, inl, inr, refl, [], ◌∷◌, ◌++◌}
use Rattle.std.specs.Borrow.{Bor}
use Rattle.std.proofs.lemmas.Result.{IfOk-at_ok, IfErr-at_err}
use Rattle.c_tokens.specs.declared.token.Mark.{Mark}
use Rattle.c_tokens.specs.declared.token.Token.{Token}
use Rattle.c_front.specs.declared.cursor.ParseStop.{ParseStop}
use Rattle.c_front.specs.Grammar.{Symbol, the, PhraseTrees, T}
use Rattle.c_front.specs.Parsing.{StartsWith, AreStuck, without_memory}
use Rattle.c_front.specs.Ends.{Parsed, StopsAs, IsEnded, IsUnended}
use Rattle.c_front.proofs.Steps.{missing, past, within}
use Rattle.c_front.specs.Reading.{Reads}

pub stops : {A : Type 0} (parsed : Parsed A) (ts : List Token) (wanted : List Symbol) (s : ParseStop) → StopsAs parsed s
    → IfErr parsed (AreStuck wanted ts) → AreStuck wanted ts s
stops parsed ts wanted s (inl e) h = rw e without_memory
stops parsed ts wanted s (inr e) h = IfErr-at_err _ e h

-- what the exit of a `?` returns
pub failed : {A : Type 0} {wanted : List Symbol} {ts : List Token} {s : ParseStop} (r : Result A ParseStop) → IsErrAnd r (λ e. e ≡ s)
    → AreStuck wanted ts s → IfErr r (AreStuck wanted ts)
failed (Err x) e h = rw e h
failed (Ok x) e h = tt

-- a part that was read already, with the mark behind it
pub plain-ended : {A : Type 0} {x : A} {ts : Bor (List Token)} (u : Mark) (r : A × Bor (List Token)) → IsEnded (Ok (x, ts)) u r
    → (r.0 ≡ x) × StartsWith u ts.now r.1.now
plain-ended {x = x} {ts = ts} u r (rest, e, m) =
    let same : (r.0 ≡ x) × (ts ≡ rest) = IfOk-at_ok (λ p. (p.0 ≡ x) × (ts ≡ p.1)) e (refl, refl) in
    (same.0, rw same.1 m)

module _ {A : Type 0} (parsed : Parsed A) (u : Mark) where
  pub unended : (wanted : List Symbol) (ts : List Token) (tree : (A × Bor (List Token)) → PhraseTrees wanted) (s : ParseStop) → IsUnended parsed u s
      → IfOk parsed (λ p. Reads wanted ts p.1.now (tree p)) → IfErr parsed (AreStuck wanted ts) → AreStuck (wanted ++ T (the u) ∷ []) ts s
  unended wanted ts tree s (inl e) h k = within _ (IfErr-at_err _ e k)
  unended wanted ts tree s (inr (a, rest, e, m)) h k = past (IfOk-at_ok _ e h) (missing m)
