-- What the single steps of a read tell.
use Rattle.std.proofs.Common.{◌≡◌, ℕ, ◌<◌, List, [], ◌∷◌, ◌++◌, length, refl, ap, ◌∙◌, ne_eqb, eq-eqb, arith}
use Rattle.atomic_table.specs.Table.{Me}
use Rattle.term_core.specs.declared.Stage.TheVariants.{Reading}
use Rattle.term_core.specs.declared.Answer.{Answer}
use Rattle.term_core.specs.declared.Call.TheVariants.{Read}
use Rattle.term_core.specs.declared.Walker.{Walker}
use Rattle.term_core.specs.declared.TheConstants.{LAST_WORD}
use Rattle.term_core.specs.World.{begins, answer_of}
use Rattle.term_table.specs.declared.view.View.{View}
use Rattle.term_table.specs.Rule.{MovedFrom}
use Rattle.term_table.specs.Calls.{Begun, inside, IsAt, Ended}
use Rattle.term_table.proofs.Steps.{paired, is_at, Turned, turned, ended}

module _ {S : Type 0} (b : Begun) (t n : ℕ) (row : List ℕ) (me me' : Me S View) (is : IsAt b (Reading t row) 0 me)
    (m : MovedFrom b.shape (begins b.call) me.0 n me'.0) where
  abbrev v : Walker
  v = inside b.start (Reading t row) 0

  abbrev answer : Answer
  answer = answer_of (row ++ n ∷ [])

  d : Turned b v n me'.0
  d = turned b (Reading t row) 0 n me me'.0 is m

  pub more_read : me'.1 ≡ me.1 → length row < LAST_WORD → IsAt b (Reading t (row ++ n ∷ [])) 0 me'
  more_read rest lt = is_at b (inside b.start (Reading t (row ++ n ∷ [])) 0) (Reading t (row ++ n ∷ [])) 0 me' (paired me' _ []
      (rw (ne_eqb (length row) LAST_WORD (λ e. omega arith)) at d.view) (rest ∙ ap (λ (x : Me S View). x.1) is.pass)) refl refl

  pub last_read : b.call ≡ Read t → length row ≡ LAST_WORD → Ended b answer b.start.own b.start.room 0 me'.0
  last_read call e = ended b (Reading t row) 0 d.history answer me'.0 d.begins
      (rw (eq-eqb (length row) LAST_WORD e, ← call) at d.view) (rw (eq-eqb (length row) LAST_WORD e, ← call) at d.sees)
