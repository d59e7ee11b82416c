-- What is told of parts, put together.
use Rattle.std.proofs.Common.{◌≡◌, ℕ, Result, Ok, Err, IfOk, IfErr, inl, inr, refl}
use Rattle.c_statements.specs.declared.fault.TypeFaultKind.{TypeFaultKind}
use Rattle.c_statements.specs.declared.fault.TypeStop.{TypeStop}
use Rattle.c_statements.specs.declared.fault.TypeStop.TheVariants.{Fault, NoMemory}
use Rattle.c_statements.specs.Faults.{Answers, Faults, StopsAtFirst, HasNone, both_of}
use Rattle.c_statements.specs.Made.{MadeOf, Stops}
use Rattle.c_statements.proofs.Firsts.{Both, left-alone, right-alone, first-both, both-none}

-- what is told of a part that has an answer
pub answers-ok : {A : Type 0} {IsRight : A → Type 0} {faults : Faults} {x : A} → IsRight x → HasNone faults → Answers IsRight faults (Ok x)
answers-ok right none = record { ok = right; none = none; err = tt }

-- what is told of a part that has none
pub answers-err : {A : Type 0} {IsRight : A → Type 0} {faults : Faults} {r : Result A TypeStop} (s : TypeStop) → r ≡ Err s → StopsAtFirst faults s
    → Answers IsRight faults r
answers-err s e first = rw e (record { ok = tt; none = tt; err = first })

-- what is told of a part of which no more is known
pub answers-of : {A : Type 0} {faults : Faults} {r : Result A TypeStop} → IfOk r (λ _. HasNone faults) → IfErr r (StopsAtFirst faults)
    → Answers (λ _. Unit {0}) faults r
answers-of {r = Ok x} none first = answers-ok tt none
answers-of {r = Err s} none first = record { ok = tt; none = tt; err = first }

-- what is known of an answer may be said in another way
pub answers-as : {A : Type 0} {P Q : A → Type 0} {p : Faults} {r : Result A TypeStop} → ((x : A) → P x → Q x) → Answers P p r → Answers Q p r
answers-as {r = Ok x} f h = record { ok = f x h.ok; none = h.none; err = tt }
answers-as {r = Err s} f h = record { ok = tt; none = tt; err = h.err }

-- and it is known which answer it is
pub answers-is : {A : Type 0} {P : A → Type 0} {p : Faults} {r : Result A TypeStop} → Answers P p r → Answers (λ x. P x × (r ≡ Ok x)) p r
answers-is {r = Ok x} h = record { ok = (h.ok, refl); none = h.none; err = tt }
answers-is {r = Err s} h = record { ok = tt; none = tt; err = h.err }

-- two sets with the same members
pub record Same (p q : Faults) : Type 0 where
  pub to : (k : TypeFaultKind) (at : ℕ) → p k at → q k at
  pub from : (k : TypeFaultKind) (at : ℕ) → q k at → p k at

pub answers-same : {A : Type 0} {P : A → Type 0} {p q : Faults} {r : Result A TypeStop} → Same p q → Answers P p r → Answers P q r
answers-same {r = Ok x} s h = record { ok = h.ok; none = λ k at w. h.none k at (s.from k at w); err = tt }
answers-same {r = Err (Fault f)} s h =
    record { ok = tt; none = tt; err = record { has = s.to _ _ h.err.has; first = λ j n w. h.err.first j n (s.from j n w) } }
answers-same {r = Err NoMemory} s h = record { ok = tt; none = tt; err = tt }

-- faults beside none are those faults
pub answers-alone : {A : Type 0} {P : A → Type 0} {p : Faults} {r : Result A TypeStop} → Answers P p r → Answers P (Both p (λ k at. ⊥)) r
answers-alone h = answers-same (record { to = λ k at w. inl w; from = λ k at w. elim w [ inl x ↦ x | inr y ↦ absurd y ] }) h

-- two parts together, where the second is known unless memory was refused for the first
pub answers-next : {A B : Type 0} {P : A → Type 0} {Q : B → Type 0} {p q : Faults} {a : Result A TypeStop} {b : Result B TypeStop}
    → Answers P p a → ((a ≡ Err NoMemory → ⊥) → Answers Q q b) → Answers (λ z. P z.0 × Q z.1) (Both p q) (both_of a b)
answers-next {p = p} {q = q} {a = Ok x} {b = Ok y} h l =
    let m = l (λ e. cc) in record { ok = (h.ok, m.ok); none = both-none p q h.none m.none; err = tt }
answers-next {p = p} {q = q} {a = Ok x} {b = Err t} h l = record { ok = tt; none = tt; err = right-alone p q t h.none (l (λ e. cc)).err }
answers-next {a = Err NoMemory} {b = Ok y} h l = record { ok = tt; none = tt; err = tt }
answers-next {a = Err NoMemory} {b = Err t} h l = record { ok = tt; none = tt; err = tt }
answers-next {p = p} {q = q} {a = Err (Fault f)} {b = Ok y} h l =
    record { ok = tt; none = tt; err = left-alone p q (Fault f) h.err (l (λ e. cc)).none }
answers-next {p = p} {q = q} {a = Err (Fault f)} {b = Err t} h l =
    record { ok = tt; none = tt; err = first-both p q (Fault f) t h.err (l (λ e. cc)).err }

pub answers-both : {A B : Type 0} {P : A → Type 0} {Q : B → Type 0} {p q : Faults} {a : Result A TypeStop} {b : Result B TypeStop}
    → Answers P p a → Answers Q q b → Answers (λ z. P z.0 × Q z.1) (Both p q) (both_of a b)
answers-both h l = answers-next h (λ _. l)

-- a part beside an answer without faults
pub answers-left : {A B : Type 0} {P : A → Type 0} {p : Faults} {a : Result A TypeStop} {y : B} → Answers P p a
    → Answers (λ z. P z.0 × (z.1 ≡ y)) p (both_of a (Ok y))
answers-left {a = Ok x} h = record { ok = (h.ok, refl); none = h.none; err = tt }
answers-left {a = Err s} h = record { ok = tt; none = tt; err = h.err }

pub answers-right : {A B : Type 0} {Q : B → Type 0} {q : Faults} {x : A} {b : Result B TypeStop} → Answers Q q b
    → Answers (λ z. (z.0 ≡ x) × Q z.1) q (both_of (Ok x) b)
answers-right {b = Ok y} h = record { ok = (refl, h.ok); none = h.none; err = tt }
answers-right {b = Err s} h = record { ok = tt; none = tt; err = h.err }

-- what is made of parts has their faults
pub answers-kept : {A D : Type 0} {P : A → Type 0} {p : Faults} {parts : Result A TypeStop} {r : Result D TypeStop} (IsMade : A → D → Type 0)
    → Answers P p parts → IfOk r (MadeOf parts IsMade) → IfErr r (Stops parts) → Answers (λ d. (x : A) × P x × IsMade x d) p r
answers-kept {r = Ok d} IsMade h made stops = let l = rw made.1 at h in record { ok = (made.0, l.ok, made.2); none = l.none; err = tt }
answers-kept {r = Err s} IsMade h made (inl e) = record { ok = tt; none = tt; err = rw e tt }
answers-kept {r = Err s} IsMade h made (inr e) = let l = rw e at h in record { ok = tt; none = tt; err = l.err }

pub answers-made : {A D : Type 0} {P : A → Type 0} {Q : D → Type 0} {p : Faults} {parts : Result A TypeStop} {r : Result D TypeStop}
    (IsMade : A → D → Type 0) → Answers P p parts → IfOk r (MadeOf parts IsMade) → IfErr r (Stops parts)
    → ((x : A) (d : D) → P x → IsMade x d → Q d) → Answers Q p r
answers-made IsMade h made stops f = answers-as (λ d k. f k.0 d k.1 k.2) (answers-kept IsMade h made stops)
