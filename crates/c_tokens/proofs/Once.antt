-- A text has its tokens once.
use Rattle.std.proofs.Common.{◌≡◌, ◌+◌, ℕ, List, [], ◌∷◌, drop, true, false, refl, sym}
use Rattle.c_tokens.specs.declared.token.Token.{Token}
use Rattle.c_tokens.specs.declared.lexer.Step.{Step}
use Rattle.c_tokens.specs.declared.lexer.Step.TheVariants.{Done, Skip, Take, Stop}
use Rattle.c_tokens.specs.Texts.{IsStep, is_oversize, Lexes, lexes_end, lexes_skip, lexes_take, LexStops, stops_here, stops_size, stops_skip}
use Rattle.c_tokens.specs.Texts.{stops_take}
use Rattle.c_tokens.specs.declared.fault.Refusal.{Refusal}
use Rattle.c_tokens.specs.declared.fault.Refusal.TheVariants.{BadSize}
use Rattle.c_tokens.proofs.Finding.{true-false}
use Rattle.c_tokens.proofs.Pieces.{next-once}

step-once : {at : ℕ} {bs : List ℕ} {s t : Step} → IsStep at bs s → IsStep at bs t → s ≡ t
step-once {bs = bs} p q = rw (p.step, next-once bs p.lexeme q.lexeme p.next q.next) (sym q.step)

-- the tokens and places where a step takes one
pub record Taken (t : Token) (n at : ℕ) (bs : List ℕ) (before tokens : List Token) (places : List ℕ) : Type 0 where
  pub more : List Token
  pub there : List ℕ
  pub tokens_are : tokens ≡ t ∷ more
  pub places_are : places ≡ at ∷ there
  pub size : is_oversize (t ∷ before) ≡ false
  pub rest : Lexes (at + n) (drop n bs) (t ∷ before) more there

-- what is known of tokens and places, by the first step
abbrev pub LexesBy : Step → ℕ → List ℕ → List Token → List Token → List ℕ → Type 0
LexesBy Done at bs before tokens places = (tokens ≡ []) × (places ≡ [])
LexesBy (Skip n) at bs before tokens places = Lexes (at + n) (drop n bs) before tokens places
LexesBy (Take t n) at bs before tokens places = Taken t n at bs before tokens places
LexesBy (Stop r k) at bs before tokens places = ⊥

pub lexes-by : {at : ℕ} {bs places : List ℕ} {before tokens : List Token} {s : Step} → Lexes at bs before tokens places → IsStep at bs s
    → LexesBy s at bs before tokens places
lexes-by (lexes_end e) f = rw (← step-once e f) (refl, refl)
lexes-by (lexes_skip e d) f = rw (← step-once e f) d
lexes-by (lexes_take {places = ks} {tokens = ts} e h d) f =
    rw (← step-once e f) (record { more = ts; there = ks; tokens_are = refl; places_are = refl; size = h; rest = d })

pub lexes-once : {at : ℕ} {bs : List ℕ} {before tokens : List Token} {places : List ℕ} → Lexes at bs before tokens places →
    (others : List Token) (there : List ℕ) → Lexes at bs before others there → (tokens ≡ others) × (places ≡ there)
lexes-once (lexes_end e) others there d = let r = lexes-by d e in (sym r.0, sym r.1)
lexes-once (lexes_skip e c) others there d = lexes-once c others there (lexes-by d e)
lexes-once (lexes_take e h c) others there d =
    let r = lexes-by d e in
    let w = lexes-once c r.more r.there r.rest in
    (rw w.0 (sym r.tokens_are), rw w.1 (sym r.places_are))

-- a text that is refused has no tokens
pub never-lexes : {at : ℕ} {bs : List ℕ} {before : List Token} {r : Refusal} {k : ℕ} → LexStops at bs before r k → (tokens : List Token) (places : List ℕ)
    → Lexes at bs before tokens places → ⊥
never-lexes (stops_here e) ts ks d = lexes-by d e
never-lexes (stops_size e h) ts ks d = true-false h (lexes-by d e).size
never-lexes (stops_skip e s) ts ks d = never-lexes s ts ks (lexes-by d e)
never-lexes (stops_take e h s) ts ks d = let r = lexes-by d e in never-lexes s r.more r.there r.rest

-- what is known of a refusal, by the first step
abbrev StopsBy : Step → ℕ → List ℕ → List Token → Refusal → ℕ → Type 0
StopsBy Done at bs before r k = ⊥
StopsBy (Skip n) at bs before r k = LexStops (at + n) (drop n bs) before r k
StopsBy (Take t n) at bs before r k = (is_oversize (t ∷ before) ≡ true → (r ≡ BadSize) × (k ≡ at))
    × (is_oversize (t ∷ before) ≡ false → LexStops (at + n) (drop n bs) (t ∷ before) r k)
StopsBy (Stop q j) at bs before r k = (r ≡ q) × (k ≡ at + j)

stops-by : {at k : ℕ} {bs : List ℕ} {before : List Token} {r : Refusal} {s : Step} → LexStops at bs before r k → IsStep at bs s → StopsBy s at bs before r k
stops-by (stops_here e) f = rw (← step-once e f) (refl, refl)
stops-by (stops_size e h) f = rw (← step-once e f) (λ g. (refl, refl), λ g. absurd (true-false h g))
stops-by (stops_skip e d) f = rw (← step-once e f) d
stops-by (stops_take e h d) f = rw (← step-once e f) (λ g. absurd (true-false g h), λ g. d)

-- a text is refused for one reason at one place
pub stops-once : {at : ℕ} {bs : List ℕ} {before : List Token} {r : Refusal} {k : ℕ} → LexStops at bs before r k → (q : Refusal) (j : ℕ)
    → LexStops at bs before q j → (r ≡ q) × (k ≡ j)
stops-once (stops_here e) q j d = let w = stops-by d e in (sym w.0, sym w.1)
stops-once (stops_size e h) q j d = let w = (stops-by d e).0 h in (sym w.0, sym w.1)
stops-once (stops_skip e c) q j d = stops-once c q j (stops-by d e)
stops-once (stops_take e h c) q j d = stops-once c q j ((stops-by d e).1 h)
