-- The tokens of a text, the sizes that it keeps within, and why it is refused.
use Rattle.std.specs.Prelude.{◌≡◌, ◌+◌, ◌-◌, ◌<◌, ◌≤◌, ◌^◌, ℕ, suc, List, [], ◌∷◌, drop, Bool, true, false, nat_eq, nat_lt, ◌||◌, if◌then◌else◌}
use Rattle.c_tokens.specs.declared.token.Token.{Token}
use Rattle.c_tokens.specs.declared.token.Token.TheVariants.{Name, Constant, Jump, The}
use Rattle.c_tokens.specs.declared.token.Mark.TheVariants.{Else, For, Semicolon, LeftBrace, RightBrace}
use Rattle.c_tokens.specs.declared.lexer.Lexeme.{Lexeme}
use Rattle.c_tokens.specs.declared.lexer.Lexeme.TheVariants.{End, Separator, Word, Numeral, Sign, Leap, Refused, NoConstant}
use Rattle.c_tokens.specs.declared.lexer.Step.{Step}
use Rattle.c_tokens.specs.declared.lexer.Step.TheVariants.{Done, Skip, Take, Stop}
use Rattle.c_tokens.specs.declared.sizes.Sizes.{Sizes}
use Rattle.c_tokens.specs.declared.sizes.TheConstants.{MAX_RUN, MAX_OPEN, MAX_NESTED}
use Rattle.c_tokens.specs.declared.fault.LexFault.{LexFault}
use Rattle.c_tokens.specs.declared.fault.LexFault.TheVariants.{Refused as RefusedAt, NoMemory}
use Rattle.c_tokens.specs.declared.fault.Refusal.{Refusal}
use Rattle.c_tokens.specs.declared.fault.Refusal.TheVariants.{BadToken, BadConstant, BadSize}
use Rattle.c_tokens.specs.Pieces.{IsNext}

-- the lexeme has bytes, and no more than there are
abbrev pub Fits : Lexeme → ℕ → Type 0
Fits (Separator k) n = (0 < k) × (k ≤ n)
Fits (Word k) n = (0 < k) × (k ≤ n)
Fits (Numeral v k) n = (0 < k) × (k ≤ n)
Fits (Sign m k) n = (0 < k) × (k ≤ n)
Fits (Leap w k) n = (0 < k) × (k ≤ n)
Fits (Refused k) n = k ≤ n
Fits _ n = Unit {0}

-- a word's length fits a token
abbrev pub IsNarrow : Lexeme → Type 0
IsNarrow (Word k) = k < 2 ^ 32
IsNarrow _ = Unit {0}

-- what a lexeme at a place is: a token, a separator, or a fault with its number and how much further on it is
abbrev pub step_of : ℕ → Lexeme → Step
step_of at End = Done
step_of at (Separator n) = Skip n
step_of at (Word n) = Take (Name (record { at = at; length = n })) n
step_of at (Numeral v n) = Take (Constant v) n
step_of at (Sign m n) = Take (The m) n
step_of at (Leap w n) = Take (Jump w at) n
step_of at (Refused k) = Stop BadToken k
step_of at NoConstant = Stop BadConstant 0

abbrev pub StepFits : Step → ℕ → Type 0
StepFits (Skip k) n = (0 < k) × (k ≤ n)
StepFits (Take t k) n = (0 < k) × (k ≤ n)
StepFits (Stop r k) n = k ≤ n
StepFits Done n = Unit {0}

-- the last tokens come first in these lists
abbrev pub ends_run : Token → Bool
ends_run (The Semicolon) = true
ends_run (The LeftBrace) = true
ends_run (The RightBrace) = true
ends_run _ = false

abbrev pub opens : Token → Bool
opens (The LeftBrace) = true
opens _ = false

abbrev pub closes : Token → Bool
closes (The RightBrace) = true
closes _ = false

abbrev pub nests : Token → Bool
nests (The Else) = true
nests (The For) = true
nests _ = false

-- it ends no run, opens or closes no brace, and is neither `else` nor `for`
abbrev pub is_plain : Token → Bool
is_plain t = if ends_run t then false else (if nests t then false else true)

-- how many tokens stand after the last `;`, `{` or `}`
abbrev pub run_of : List Token → ℕ
run_of [] = 0
run_of (t ∷ before) = if ends_run t then 0 else suc (run_of before)

-- how many braces are open
abbrev pub open_of : List Token → ℕ
open_of [] = 0
open_of (t ∷ before) = if opens t then suc (open_of before) else (if closes t then open_of before - 1 else open_of before)

-- how many tokens `else` and `for` stand after the last place where no brace was open
abbrev pub nests_of : List Token → ℕ
nests_of [] = 0
nests_of (t ∷ before) = (if nests t then 1 else 0) + (if nat_eq (open_of before) 0 then 0 else nests_of before)

-- how many of them count for the next token: none where no brace is open
abbrev pub carried_of : List Token → ℕ
carried_of before = if nat_eq (open_of before) 0 then 0 else nests_of before

abbrev pub is_oversize : List Token → Bool
is_oversize tokens = nat_lt MAX_RUN (run_of tokens) || nat_lt MAX_OPEN (open_of tokens) || nat_lt MAX_NESTED (nests_of tokens)

-- what to do at a place: the step of what stands at the front of the bytes from there on
pub record IsStep (at : ℕ) (bs : List ℕ) (s : Step) : Type 0 where
  pub lexeme : Lexeme
  pub next : IsNext bs lexeme
  pub step : s ≡ step_of at lexeme

-- the bytes, of which the first stands at `at` after some tokens, have these tokens at these places, within the sizes
pub data Lexes : ℕ → List ℕ → List Token → List Token → List ℕ → Type 0 where
  lexes_end : {at : ℕ} {bs : List ℕ} {before : List Token} → IsStep at bs Done → Lexes at bs before [] []
  lexes_skip : {at n : ℕ} {bs places : List ℕ} {before tokens : List Token} → IsStep at bs (Skip n) →
      Lexes (at + n) (drop n bs) before tokens places → Lexes at bs before tokens places
  lexes_take : {at n : ℕ} {bs places : List ℕ} {before tokens : List Token} {t : Token} → IsStep at bs (Take t n)
      → is_oversize (t ∷ before) ≡ false →
      Lexes (at + n) (drop n bs) (t ∷ before) tokens places → Lexes at bs before (t ∷ tokens) (at ∷ places)

-- wherever the text has tokens, they stand at these places
abbrev pub ArePlaces : List ℕ → List ℕ → Type 0
ArePlaces text places = (tokens : List Token) (there : List ℕ) → Lexes 0 text [] tokens there → places ≡ there

-- the first refusal, and where it is
pub data LexStops : ℕ → List ℕ → List Token → Refusal → ℕ → Type 0 where
  stops_here : {at k : ℕ} {r : Refusal} {bs : List ℕ} {before : List Token} → IsStep at bs (Stop r k) → LexStops at bs before r (at + k)
  stops_size : {at n : ℕ} {bs : List ℕ} {before : List Token} {t : Token} → IsStep at bs (Take t n) → is_oversize (t ∷ before) ≡ true
      → LexStops at bs before BadSize at
  stops_skip : {at n k : ℕ} {r : Refusal} {bs : List ℕ} {before : List Token} → IsStep at bs (Skip n)
      → LexStops (at + n) (drop n bs) before r k
      → LexStops at bs before r k
  stops_take : {at n k : ℕ} {r : Refusal} {bs : List ℕ} {before : List Token} {t : Token} → IsStep at bs (Take t n)
      → is_oversize (t ∷ before) ≡ false →
      LexStops (at + n) (drop n bs) (t ∷ before) r k → LexStops at bs before r k

abbrev pub IsLexFault : List ℕ → LexFault → Type 0
IsLexFault text (RefusedAt r k) = LexStops 0 text [] r k
IsLexFault text NoMemory = Unit {0}

-- the counts of some tokens, which keep within the sizes
pub record Counts (sizes : Sizes) (before : List Token) : Type 0 where
  pub run : sizes.run ≡ run_of before
  pub open_braces : sizes.open ≡ open_of before
  pub nested : sizes.nested ≡ carried_of before

pub record Within (sizes : Sizes) : Type 0 where
  pub run : sizes.run ≤ MAX_RUN
  pub open_braces : sizes.open ≤ MAX_OPEN
  pub nested : sizes.nested ≤ MAX_NESTED

abbrev pub Counted : Sizes → Token → Sizes → Type 0
Counted sizes t new = Within new
    × ((before : List Token) → Counts sizes before → Counts new (t ∷ before) × (is_oversize (t ∷ before) ≡ false))

abbrev pub Oversize : Sizes → Token → Type 0
Oversize sizes t = (before : List Token) → Counts sizes before → is_oversize (t ∷ before) ≡ true
