-- Names at file scope: the one fault that each has.
use Rattle.std.proofs.Common.{◌≡◌, ◌≢◌, ◌≤◌, ℕ, List, Option, Some, None, inl, inr, refl, sym, ap, ◌∙◌, arith, Bool, true, false}
use Rattle.std.proofs.lemmas.Bool.{eq-eqb, eqb-true}
use Rattle.std.specs.Prelude.{is_some}
use Rattle.c_tokens.specs.declared.token.Identifier.{Identifier}
use Rattle.c_tree.specs.Tree.{Declaration, variable, array, function}
use Rattle.c_statements.specs.declared.fault.TypeFaultKind.{TypeFaultKind}
use Rattle.c_statements.specs.declared.fault.TypeFaultKind.TheVariants.{Redeclared, Kind as KindFault, Limit}
use Rattle.c_statements.specs.declared.fault.TypeStop.{TypeStop}
use Rattle.c_statements.specs.declared.fault.TypeStop.TheVariants.{Fault}
use Rattle.c_statements.specs.Faults.{number_of, HasNone, StopsAtFirst}
use Rattle.c_statements.specs.Names.{spelling_in}
use Rattle.c_types.specs.Files.{Exceeds, IsOtherKind}
use Rattle.c_types.specs.Programs.{File, FaultyName, declared_again, other_main, array_of_nothing, too_many_words, too_many_functions, name_of}

place : {text : List ℕ} {f : File} {d : Declaration} {j : TypeFaultKind} {n : ℕ} → FaultyName text f d j n → (name_of d).at ≡ n
place (declared_again h) = refl
place _ = refl

least : {text : List ℕ} {f : File} {d : Declaration} {j : TypeFaultKind} {n : ℕ} → FaultyName text f d j n → 11 ≤ number_of j
least (declared_again h) = omega arith
least _ = omega arith

least-new : {text : List ℕ} {f : File} {d : Declaration} {j : TypeFaultKind} {n : ℕ} → f.names (spelling_in text (name_of d)) ≡ None
    → FaultyName text f d j n → 12 ≤ number_of j
least-new e (declared_again h) = absurd (h e)
least-new e _ = omega arith

exceeds : {text : List ℕ} {f : File} {d : Declaration} {j : TypeFaultKind} {n : ℕ} → f.names (spelling_in text (name_of d)) ≡ None
    → (IsOtherKind text d → ⊥) → FaultyName text f d j n → Exceeds f.counts d × (20 ≤ number_of j)
exceeds e k (declared_again h) = absurd (h e)
exceeds e k (other_main h i) = absurd (k (inr (h, i)))
exceeds e k (array_of_nothing {n = n} h) = absurd (k (inl (eq-eqb n.value 0 h)))
exceeds {d = variable integer_type x i} e k (too_many_words h l) = ((h, l), omega arith)
exceeds {d = array w integer_type x n} e k (too_many_words h l) = ((h, l), omega arith)
exceeds {d = function t x ps body} e k (too_many_words h l) = absurd (omega (arith, h, l))
exceeds e k (too_many_functions h) = (h, omega arith)

wrong-kind : (text : List ℕ) (f : File) (d : Declaration) → IsOtherKind text d → FaultyName text f d KindFault (name_of d).at
wrong-kind text f d (inr h) = other_main h.0 h.1
wrong-kind text f (array w k x n) (inl h) = array_of_nothing (eqb-true n.value 0 h)
wrong-kind text f _ (inl h) = cc

too-many : (text : List ℕ) (f : File) (d : Declaration) → Exceeds f.counts d → FaultyName text f d Limit (name_of d).at
too-many text f (function r x ps body) h = too_many_functions h
too-many text f _ h = too_many_words h.0 h.1

some-there : {A : Type 0} (o : Option A) → is_some o ≡ true → o ≢ None
some-there o h e = let f = ap is_some e in cc

none-there : {A : Type 0} (o : Option A) → is_some o ≡ false → o ≡ None
none-there (Some a) h = cc
none-there None h = refl

-- the fault of a name, as a call answers it
module _ (text : List ℕ) (f : File) (d : Declaration) (x : Identifier) (b : Bool) (is : x ≡ name_of d) (told : b ≡ is_some (f.names (spelling_in text x))) where
  pub again-stops : (s : TypeStop) → b ≡ true → s ≡ Fault (record { kind = Redeclared; at = x.at }) → StopsAtFirst (FaultyName text f d) s
  again-stops s t q =
      rw (q, is) (record { has = declared_again (some-there _ (rw is at (sym told ∙ t))); first = λ j n w. inr (place w, least w) })

  unseen : b ≡ false → f.names (spelling_in text (name_of d)) ≡ None
  unseen t = none-there _ (rw is at (sym told ∙ t))

  pub kind-stops : (s : TypeStop) → b ≡ false → IsOtherKind text d → s ≡ Fault (record { kind = KindFault; at = x.at })
      → StopsAtFirst (FaultyName text f d) s
  kind-stops s t k q = rw (q, is) (record { has = wrong-kind text f d k; first = λ j n w. inr (place w, least-new (unseen t) w) })

  pub limit-stops : (s : TypeStop) → b ≡ false → (IsOtherKind text d → ⊥) → Exceeds f.counts d → s ≡ Fault (record { kind = Limit; at = x.at })
      → StopsAtFirst (FaultyName text f d) s
  limit-stops s t k h q = rw (q, is) (record { has = too-many text f d h; first = λ j n w. inr (place w, (exceeds (unseen t) k w).1) })

  pub no-stop : b ≡ false → (IsOtherKind text d → ⊥) → (Exceeds f.counts d → ⊥) → HasNone (FaultyName text f d)
  no-stop t k h j n w = h (exceeds (unseen t) k w).0
