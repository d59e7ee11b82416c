-- A place in a text that was reached token by token.
use Rattle.std.proofs.Common.{◌≡◌, ◌≤◌, ◌+◌, ℕ, suc, List, ◌++◌, ◌∷◌, [], length, drop, Bool, true, false, if◌then◌else◌, refl, arith, length-drop, append_assoc, append-nil, add-zero}
use Rattle.std.proofs.lemmas.List.{drop-drop}
use Rattle.c_tokens.specs.Lexing.{is_space}
use Rattle.c_tokens.specs.Fronts.{blank_length}
use Rattle.c_tokens.proofs.Marks.{blank-step}
use Rattle.c_tokens.specs.declared.token.Token.{Token}
use Rattle.c_tokens.specs.declared.lexer.Step.TheVariants.{Done, Skip, Take, Stop}
use Rattle.c_tokens.specs.declared.sizes.Sizes.{Sizes}
use Rattle.c_tokens.specs.declared.fault.Refusal.{Refusal}
use Rattle.c_tokens.specs.declared.fault.Refusal.TheVariants.{BadSize}
use Rattle.c_tokens.specs.Texts.{IsStep, Lexes, lexes_end, lexes_skip, lexes_take, LexStops, stops_here, stops_size, stops_skip, stops_take, Counts, Within}
use Rattle.c_tokens.specs.Texts.{Counted, Oversize}

pub record LexGoes (text rest : List ℕ) (at : ℕ) (tokens : List Token) (sizes : Sizes) : Type 0 where
  pub before : List Token
  pub places : List ℕ
  pub counts : Counts sizes before
  pub within : Within sizes
  pub lexes : (ts : List Token) (ks : List ℕ) → Lexes at rest before ts ks → Lexes 0 text [] (tokens ++ ts) (places ++ ks)
  pub stops : (r : Refusal) (k : ℕ) → LexStops at rest before r k → LexStops 0 text [] r k
  pub place : at + length rest ≡ length text

pub goes-end : (text rest : List ℕ) (at : ℕ) (tokens : List Token) (sizes : Sizes) → LexGoes text rest at tokens sizes
    → IsStep at rest Done → (places : List ℕ) × Lexes 0 text [] tokens places
goes-end text rest at tokens sizes g e = (g.places ++ [], rw (append-nil tokens) at (g.lexes [] [] (lexes_end e)))

pub place-after : (text rest : List ℕ) (at n : ℕ) → at + length rest ≡ length text → n ≤ length rest → (at + n) + length (drop n rest) ≡ length text
place-after text rest at n p h = omega (arith, length-drop n rest, h, p)

pub goes-skip : (text rest next : List ℕ) (at n : ℕ) (tokens : List Token) (sizes : Sizes) → LexGoes text rest at tokens sizes
    → IsStep at rest (Skip n) → n ≤ length rest → next ≡ drop n rest → LexGoes text next (at + n) tokens sizes
goes-skip text rest next at n tokens sizes g e h q = rw q (record {
  before = g.before;
  places = g.places;
  counts = g.counts;
  within = g.within;
  lexes = λ ts ks d. g.lexes ts ks (lexes_skip e d);
  stops = λ r k d. g.stops r k (stops_skip e d);
  place = place-after text rest at n g.place h;
})

pub goes-take : (text rest next : List ℕ) (at n : ℕ) (t : Token) (tokens moretokens : List Token) (sizes new : Sizes)
    → LexGoes text rest at tokens sizes → IsStep at rest (Take t n) → n ≤ length rest →
    Counted sizes t new → next ≡ drop n rest → moretokens ≡ tokens ++ t ∷ [] → LexGoes text next (at + n) moretokens new
goes-take text rest next at n t tokens moretokens sizes new g e h c q p =
    let counted = c.1 g.before g.counts in
    rw q (record {
      before = t ∷ g.before;
      places = g.places ++ at ∷ [];
      counts = counted.0;
      within = c.0;
      lexes = λ ts ks d. rw (p, append_assoc, append_assoc) (g.lexes (t ∷ ts) (at ∷ ks) (lexes_take e counted.1 d));
      stops = λ r k d. g.stops r k (stops_take e counted.1 d);
      place = place-after text rest at n g.place h;
    })

pub goes-big : (text rest : List ℕ) (at n : ℕ) (t : Token) (tokens : List Token) (sizes : Sizes) → LexGoes text rest at tokens sizes
    → IsStep at rest (Take t n) → Oversize sizes t → LexStops 0 text [] BadSize at
goes-big text rest at n t tokens sizes g e h = g.stops BadSize at (stops_size e (h g.before g.counts))

pub goes-stop : (text rest : List ℕ) (at k : ℕ) (r : Refusal) (tokens : List Token) (sizes : Sizes) → LexGoes text rest at tokens sizes
    → IsStep at rest (Stop r k) → LexStops 0 text [] r (at + k)
goes-stop text rest at k r tokens sizes g e = g.stops r (at + k) (stops_here e)

pub goes-blanks : (text rest : List ℕ) (at : ℕ) (tokens : List Token) (sizes : Sizes) → LexGoes text rest at tokens sizes
    → LexGoes text (drop (blank_length rest) rest) (at + blank_length rest) tokens sizes
goes-blanks text [] at tokens sizes g = rw (add-zero at) g
goes-blanks text (b ∷ bs) at tokens sizes g = go (λ d. goes-blanks text bs (at + 1) tokens sizes d) (is_space b) refl
  where
    go : (LexGoes text bs (at + 1) tokens sizes → LexGoes text (drop (blank_length bs) bs) ((at + 1) + blank_length bs) tokens sizes)
        → (x : Bool) → is_space b ≡ x
        → LexGoes text (drop (if x then suc (blank_length bs) else 0) (b ∷ bs)) (at + (if x then suc (blank_length bs) else 0)) tokens sizes
    go more true h =
        let e : (at + 1) + blank_length bs ≡ at + suc (blank_length bs) = omega arith in
        rw e at (more (goes-skip text (b ∷ bs) bs at 1 tokens sizes g (blank-step at b bs h) (omega arith) refl))
    go more false h = rw (add-zero at) g

-- behind the blanks, as the code cuts them off
pub goes-behind : (text front : List ℕ) (at place : ℕ) (tokens : List Token) (sizes : Sizes) → LexGoes text (drop at text) at tokens sizes
    → place ≡ at + blank_length (drop at text) → front ≡ drop place text → LexGoes text front place tokens sizes
goes-behind text front at place tokens sizes g e f = rw (f, e, ← drop-drop (blank_length (drop at text)) at text) (goes-blanks text (drop at text) at tokens sizes g)

-- what is left after the next bytes
pub left-after : (text front : List ℕ) (place n : ℕ) → front ≡ drop place text → drop (place + n) text ≡ drop n front
left-after text front place n f = rw (f, drop-drop n place text)
