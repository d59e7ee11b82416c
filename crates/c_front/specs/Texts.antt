-- Which program a text spells, and why it is refused.
use Rattle.std.specs.Prelude.{◌≡◌, ◌<◌, ◌≤◌, ℕ, List, [], length, Bool, true, false, nat_eq, nat_le, nat_lt, ◌&&◌, ◌||◌, if◌then◌else◌}
use Rattle.std.specs.Prelude.{slice_index}
use Rattle.c_tokens.specs.declared.sizes.TheConstants.{MAX_TEXT}
use Rattle.c_tokens.specs.declared.token.Token.{Token}
use Rattle.c_tokens.specs.declared.fault.Refusal.{Refusal}
use Rattle.c_tokens.specs.declared.fault.Refusal.TheVariants.{BadToken, BadConstant, BadSize}
use Rattle.c_tokens.specs.Texts.{Lexes, LexStops}
use Rattle.c_front.specs.declared.fault.FrontFaultKind.{FrontFaultKind}
use Rattle.c_front.specs.declared.fault.FrontFaultKind.TheVariants.{Byte, Token as TokenFault, Syntax, Constant, Size, NoMemory}
use Rattle.c_tree.specs.Tree.{Declaration}
use Rattle.c_front.specs.Grammar.{Spells}
use Rattle.c_front.specs.Syntax.{IsFirstWrong}

-- the bytes that a text may have: 32 to 126, tab, LF and CR
abbrev pub is_text : ℕ → Bool
is_text b = (nat_le 32 b && nat_le b 126) || nat_eq b 9 || nat_eq b 10 || nat_eq b 13

abbrev pub AllText : List ℕ → Type 0
AllText text = (k : ℕ) → k < length text → is_text (slice_index text k) ≡ true

-- the first byte that no text has
abbrev pub IsBadByte : List ℕ → ℕ → Type 0
IsBadByte text k = (k < length text) × (is_text (slice_index text k) ≡ false) × ((j : ℕ) → j < k → is_text (slice_index text j) ≡ true)

-- the text's tokens keep within the sizes, and the grammar derives the declarations from them
pub record SpellsText (text : List ℕ) (p : List Declaration) : Type 0 where
  pub short : length text ≤ MAX_TEXT
  pub bytes : AllText text
  pub tokens : List Token
  pub places : List ℕ
  pub lexes : Lexes 0 text [] tokens places
  pub spells : Spells tokens p

-- where the token of a number stands, or the text's length
abbrev pub place_or : ℕ → List ℕ → ℕ → ℕ
place_or end places k = if nat_lt k (length places) then slice_index places k else end

abbrev pub refusal_kind : Refusal → FrontFaultKind
refusal_kind BadToken = TokenFault
refusal_kind BadConstant = Constant
refusal_kind BadSize = Size

-- why a text is refused, and where, in the order of the tests. Lack of memory is told at the text's length, and not before length and bytes
-- are tested
pub data IsTextFault (text : List ℕ) : FrontFaultKind → ℕ → Type 0 where
  too_long : MAX_TEXT < length text → IsTextFault text Size MAX_TEXT
  bad_byte : {k : ℕ} → length text ≤ MAX_TEXT → IsBadByte text k → IsTextFault text Byte k
  bad_token : {r : Refusal} {k : ℕ} → length text ≤ MAX_TEXT → AllText text → LexStops 0 text [] r k → IsTextFault text (refusal_kind r) k
  bad_syntax : {tokens : List Token} {places : List ℕ} {k : ℕ} → length text ≤ MAX_TEXT → AllText text → Lexes 0 text [] tokens places
      → IsFirstWrong tokens k →
      IsTextFault text Syntax (place_or (length text) places k)
  no_memory : length text ≤ MAX_TEXT → AllText text → IsTextFault text NoMemory (length text)
