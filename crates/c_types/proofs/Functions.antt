-- The scopes and the faults of a function.
use Rattle.std.proofs.Common.{◌≡◌, ℕ, List, [], ◌∷◌, refl, sym, ap, ◌∙◌, Result, Option, Bool, false}
use Rattle.std.specs.Prelude.{is_some}
use Rattle.c_tree.specs.declared.tree.Parameter.{Parameter}
use Rattle.c_tree.specs.Tree.{Items, function}
use Rattle.c_tokens.specs.declared.token.Identifier.{Identifier}
use Rattle.c_tokens.specs.declared.token.IntegerType.{IntegerType}
use Rattle.c_statements.specs.declared.fault.TypeStop.{TypeStop}
use Rattle.c_statements.specs.Faults.{Answers, both_of}
use Rattle.c_statements.specs.Names.{Bindings, Scopes, outside, without_first, without_locals, within, with_local, behind_items}
use Rattle.c_statements.specs.Statements.{FaultyItems}
use Rattle.c_statements.proofs.Joins.{answers-both}
use Rattle.c_statements.proofs.BlockItems.{behind-around}
use Rattle.c_types.specs.Files.{file_scopes}
use Rattle.c_types.specs.Programs.{FaultyParameters, FaultyBody, behind_parameters, scopes_at}

around-parameters : (text : List ℕ) (sc : Scopes) (ps : List Parameter) → (behind_parameters text sc ps).around ≡ sc.around
around-parameters text sc [] = refl
around-parameters text sc (p ∷ rest) = around-parameters text (with_local text sc p.integer_type p.name) rest

pub back : (text : List ℕ) (old s1 s2 s3 s4 s5 : Scopes) (ps : List Parameter) (body : Items) → old ≡ file_scopes old.inner
    → s1 ≡ within old → s2 ≡ behind_parameters text s1 ps → s3 ≡ behind_items text s2 body
    → s4 ≡ outside s3 → s5 ≡ without_locals s4 → s5 ≡ old
back text old s1 s2 s3 s4 s5 ps body o a b d e f = f ∙ ap without_locals e ∙ ap (λ (m : List Bindings). without_locals (without_first m s3)) there ∙ sym o
  where
    there : s3.around ≡ old.inner ∷ []
    there = rw (d, behind-around text s2 body, b, around-parameters text s1 ps, a) (ap (λ (s : Scopes). old.inner ∷ s.around) o)

pub body-told : {A B : Type 0} {P : A → Type 0} {Q : B → Type 0} (text : List ℕ) {old s1 s2 : Scopes} (r : Option IntegerType) (x : Identifier)
    (ps : List Parameter) (body : Items) {a : Result A TypeStop} {b : Result B TypeStop} {g : Bool} → g ≡ is_some r → old ≡ file_scopes old.inner
    → s1 ≡ within old → s2 ≡ behind_parameters text s1 ps → Answers P (FaultyParameters text s1 ps) a → Answers Q (FaultyItems text g false s2 body) b
    → Answers (λ z. P z.0 × Q z.1) (FaultyBody text old.inner (function r x ps body)) (both_of a b)
body-told text {old = old} {s1 = s1} r x ps body q o e f h l =
    let start : s1 ≡ scopes_at old.inner = e ∙ ap within o in
    answers-both (rw start at h) (rw (q, f, start) at l)
