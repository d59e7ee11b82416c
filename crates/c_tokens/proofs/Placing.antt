-- The places of a text's tokens, token by token.
use Rattle.std.proofs.Common.{◌≡◌, ◌≤◌, ◌+◌, ℕ, List, ◌++◌, ◌∷◌, [], length, drop, ap, ◌∙◌, append_assoc, append-nil}
use Rattle.c_tokens.specs.declared.token.Token.{Token}
use Rattle.c_tokens.specs.declared.lexer.Step.TheVariants.{Done, Skip, Take, Stop}
use Rattle.c_tokens.specs.declared.fault.Refusal.{Refusal}
use Rattle.c_tokens.specs.Texts.{IsStep, Lexes, ArePlaces}
use Rattle.c_tokens.proofs.Going.{place-after}
use Rattle.c_tokens.proofs.Once.{Taken, lexes-by}

-- the bytes from `at` on have tokens, whose places are these
pub record LexesOn (at : ℕ) (bs there : List ℕ) : Type 0 where
  pub before : List Token
  pub tokens : List Token
  pub lexes : Lexes at bs before tokens there

-- the places so far, and after them those of the rest
pub record IsPlacedSoFar (text rest : List ℕ) (at : ℕ) (places there : List ℕ) : Type 0 where
  pub more : List ℕ
  pub whole : there ≡ places ++ more
  pub on : LexesOn at rest more

pub record PlacesGo (text rest : List ℕ) (at : ℕ) (places : List ℕ) : Type 0 where
  pub placed : (tokens : List Token) (there : List ℕ) → Lexes 0 text [] tokens there → IsPlacedSoFar text rest at places there
  pub place : at + length rest ≡ length text

pub places-end : (text rest : List ℕ) (at : ℕ) (places : List ℕ) → PlacesGo text rest at places → IsStep at rest Done → ArePlaces text places
places-end text rest at places g e = λ tokens there d.
    let so = g.placed tokens there d in
    rw (so.whole, (lexes-by so.on.lexes e).1, append-nil)

pub places-stop : (text rest : List ℕ) (at k : ℕ) (r : Refusal) (places : List ℕ) → PlacesGo text rest at places → IsStep at rest (Stop r k)
    → ArePlaces text places
places-stop text rest at k r places g e = λ tokens there d. absurd (lexes-by (g.placed tokens there d).on.lexes e)

pub places-skip : (text rest next : List ℕ) (at n : ℕ) (places : List ℕ) → PlacesGo text rest at places → IsStep at rest (Skip n) → n ≤ length rest
    → next ≡ drop n rest → PlacesGo text next (at + n) places
places-skip text rest next at n places g e h q = rw q (record {
  placed = λ tokens there d.
      let so = g.placed tokens there d in
      record { more = so.more; whole = so.whole; on = record { before = so.on.before; tokens = so.on.tokens; lexes = lexes-by so.on.lexes e } };
  place = place-after text rest at n g.place h;
})

pub places-take : (text rest next : List ℕ) (at n : ℕ) (t : Token) (places more : List ℕ) → PlacesGo text rest at places → IsStep at rest (Take t n)
    → n ≤ length rest → next ≡ drop n rest → more ≡ places ++ at ∷ [] → PlacesGo text next (at + n) more
places-take text rest next at n t places more g e h q p = rw q (record {
  placed = λ tokens there d.
      let so = g.placed tokens there d in
      let taken : Taken t n at rest so.on.before so.on.tokens so.more = lexes-by so.on.lexes e in
      record {
        more = taken.there;
        whole = so.whole ∙ ap (λ (x : List ℕ). places ++ x) taken.places_are ∙ rw (p, append_assoc);
        on = record { before = t ∷ so.on.before; tokens = taken.more; lexes = taken.rest };
      };
  place = place-after text rest at n g.place h;
})
