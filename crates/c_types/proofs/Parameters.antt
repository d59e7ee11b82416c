-- The faults of the names of parameters.
use Rattle.std.proofs.Common.{◌≡◌, ℕ, List, [], ◌∷◌, ◌++◌, Result, Err, IfOk, IfErr, inl, inr, refl, sym, ap, arith}
use Rattle.std.proofs.lemmas.Result.{IfErr-weaker}
use Rattle.c_tokens.specs.declared.token.Identifier.{Identifier}
use Rattle.c_statements.specs.declared.fault.TypeFaultKind.{TypeFaultKind}
use Rattle.c_statements.specs.declared.fault.TypeFaultKind.TheVariants.{Count}
use Rattle.c_statements.specs.declared.fault.TypeStop.{TypeStop}
use Rattle.c_statements.specs.declared.fault.TypeStop.TheVariants.{Fault}
use Rattle.c_tree.specs.declared.tree.Parameter.{Parameter}
use Rattle.c_statements.specs.Faults.{Answers, number_of, Faults, StopsAtFirst, both_of}
use Rattle.c_statements.specs.Made.{MadeOf}
use Rattle.c_typed.specs.declared.limits.TheConstants.{MAX_PARAMETERS}
use Rattle.c_statements.specs.Names.{Scopes, with_local}
use Rattle.c_statements.specs.Statements.{FaultyDeclarator}
use Rattle.c_statements.proofs.Firsts.{Both}
use Rattle.c_statements.proofs.Joins.{answers-both, answers-made, answers-same}
use Rattle.c_types.specs.Programs.{IsFifth, FaultyParameter, FaultyParameters, behind_parameters, faulty_declarator, fifth_parameter}

pub fifth-stops : (sc : Scopes) (x : Identifier) (s : TypeStop) → sc.locals ≡ MAX_PARAMETERS → s ≡ Fault (record { kind = Count; at = x.at })
    → StopsAtFirst (IsFifth sc x) s
fifth-stops sc x s l q =
    rw q (record { has = (l, (refl, refl)); first = λ j n w. inr (sym w.1.1, omega (arith, ap number_of w.1.0)) })

fault-from : (text : List ℕ) (sc : Scopes) (x : Identifier) (k : TypeFaultKind) (at : ℕ) → FaultyParameter text sc x k at
    → Both (IsFifth sc x) (FaultyDeclarator text sc x) k at
fault-from text sc x k at (fifth_parameter h) = inl h
fault-from text sc x k at (faulty_declarator h) = inr h

-- what is told of two parts of which neither has a value
told-either : {p q : Faults} {a b c : Result Unit TypeStop} → Answers (λ _. Unit {0}) p a → Answers (λ _. Unit {0}) q b
    → IfOk c (MadeOf (both_of a b) (λ _ _. Unit {0})) → IfErr c (λ s. both_of a b ≡ Err s) → Answers (λ _. Unit {0}) (Both p q) c
told-either {c = c} h l made stops =
    answers-made (λ _ _. Unit {0}) (answers-both h l) made (IfErr-weaker c _ _ (λ s e. inr e) stops) (λ x d k e. tt)

-- the one fault of a parameter's name
pub one-name : {text : List ℕ} {sc : Scopes} {x : Identifier} {a b c : Result Unit TypeStop} → Answers (λ _. Unit {0}) (IsFifth sc x) a
    → Answers (λ _. Unit {0}) (FaultyDeclarator text sc x) b → IfOk c (MadeOf (both_of a b) (λ _ _. Unit {0}))
    → IfErr c (λ s. both_of a b ≡ Err s) → Answers (λ _. Unit {0}) (FaultyParameter text sc x) c
one-name {text = text} {sc = sc} {x = x} h l made stops =
    answers-same (record { to = λ k at h. elim h [ inl w ↦ fifth_parameter w | inr w ↦ faulty_declarator w ]; from = fault-from text sc x })
    (told-either h l made stops)

faults-to : (text : List ℕ) (sc : Scopes) (done : List Parameter) (p : Parameter) (k : TypeFaultKind) (at : ℕ)
    → Both (FaultyParameters text sc done) (FaultyParameter text (behind_parameters text sc done) p.name) k at
    → FaultyParameters text sc (done ++ p ∷ []) k at
faults-to text sc [] p k at (inl h) = absurd h
faults-to text sc [] p k at (inr h) = inl h
faults-to text sc (q ∷ done) p k at (inl (inl h)) = inl h
faults-to text sc (q ∷ done) p k at (inl (inr h)) = inr (faults-to text (with_local text sc q.integer_type q.name) done p k at (inl h))
faults-to text sc (q ∷ done) p k at (inr h) = inr (faults-to text (with_local text sc q.integer_type q.name) done p k at (inr h))

faults-from : (text : List ℕ) (sc : Scopes) (done : List Parameter) (p : Parameter) (k : TypeFaultKind) (at : ℕ)
    → FaultyParameters text sc (done ++ p ∷ []) k at
    → Both (FaultyParameters text sc done) (FaultyParameter text (behind_parameters text sc done) p.name) k at
faults-from text sc [] p k at (inl h) = inr h
faults-from text sc [] p k at (inr h) = absurd h
faults-from text sc (q ∷ done) p k at (inl h) = inl (inl h)
faults-from text sc (q ∷ done) p k at (inr h) =
    elim (faults-from text (with_local text sc q.integer_type q.name) done p k at h) [ inl x ↦ inl (inr x) | inr y ↦ inr y ]

pub behind-more : (text : List ℕ) (sc : Scopes) (done : List Parameter) (p : Parameter)
    → behind_parameters text sc (done ++ p ∷ []) ≡ with_local text (behind_parameters text sc done) p.integer_type p.name
behind-more text sc [] p = refl
behind-more text sc (q ∷ done) p = behind-more text (with_local text sc q.integer_type q.name) done p

-- one parameter more
pub one-more : {text : List ℕ} (sc : Scopes) {now : Scopes} (done : List Parameter) (p : Parameter) {a b c : Result Unit TypeStop}
    → now ≡ behind_parameters text sc done → Answers (λ _. Unit {0}) (FaultyParameters text sc done) a
    → Answers (λ _. Unit {0}) (FaultyParameter text now p.name) b → IfOk c (MadeOf (both_of a b) (λ _ _. Unit {0}))
    → IfErr c (λ s. both_of a b ≡ Err s) → Answers (λ _. Unit {0}) (FaultyParameters text sc (done ++ p ∷ [])) c
one-more {text = text} sc done p e h l made stops =
    answers-same (record { to = faults-to text sc done p; from = faults-from text sc done p }) (told-either h (rw e at l) made stops)
