-- The pieces that a text consists of (C99 6.4), and which of them stands at its front: the longest.
use Rattle.std.specs.Prelude.{◌≡◌, ◌+◌, ◌<◌, ◌≤◌, ℕ, List, [], ◌∷◌, length, take, Bool, true, false, nat_eq, Some}
use Rattle.std.specs.Prelude.{None, codes}
use Rattle.c_tokens.specs.declared.token.Mark.{Mark}
use Rattle.c_tokens.specs.declared.token.Literal.{Literal}
use Rattle.c_tokens.specs.declared.lexer.Lexeme.{Lexeme}
use Rattle.c_tokens.specs.declared.lexer.Lexeme.TheVariants.{End, Separator, Numeral, Sign, Refused, NoConstant}
use Rattle.c_tokens.specs.Lexing.{is_space, is_letter, is_digit, is_word, goes_on, is_exponent, is_front, signs, keywords}
use Rattle.c_tokens.specs.Lexing.{entry_in, word_lexeme, escape_at}
use Rattle.c_tokens.specs.Constants.{IsConstant}

-- letters, digits and `_`
pub data IsWord : List ℕ → Type 0 where
  word_end : IsWord []
  word_more : {b : ℕ} {bs : List ℕ} → is_word b ≡ true → IsWord bs → IsWord (b ∷ bs)

-- letters, digits, `_`, `.`, and a sign directly after an `e`, `E`, `p` or `P`, which may also stand just before the bytes
pub data IsRun : Bool → List ℕ → Type 0 where
  run_end : {after : Bool} → IsRun after []
  run_more : {after : Bool} {b : ℕ} {bs : List ℕ} → goes_on after b ≡ true → IsRun (is_exponent b) bs → IsRun after (b ∷ bs)

-- no line feed
pub data IsLine : List ℕ → Type 0 where
  line_end : IsLine []
  line_more : {b : ℕ} {bs : List ℕ} → nat_eq b 10 ≡ false → IsLine bs → IsLine (b ∷ bs)

-- no `*/`
pub data IsOpen : List ℕ → Type 0 where
  open_end : IsOpen []
  open_more : {b : ℕ} {bs : List ℕ} → is_front (codes "*/") (b ∷ bs) ≡ false → IsOpen bs → IsOpen (b ∷ bs)

-- the bytes end with their first `*/`
pub data IsClosed : List ℕ → Type 0 where
  closed_here : IsClosed (codes "*/")
  closed_later : {b : ℕ} {bs : List ℕ} → is_front (codes "*/") (b ∷ bs) ≡ false → IsClosed bs → IsClosed (b ∷ bs)

-- a comment is a separator, and refused where a backslash or two question marks in a row stand in it
abbrev pub comment_piece : ℕ → List ℕ → Lexeme
comment_piece n inside = elim (escape_at inside) [ None ↦ Separator n | Some k ↦ Refused (k + 2) ]

-- the pieces, and what each of them is. A comment that isn't closed is a piece too, and so is a byte that begins no other
pub data IsPiece : List ℕ → Lexeme → Type 0 where
  a_space : {b : ℕ} → is_space b ≡ true → IsPiece (b ∷ []) (Separator 1)
  a_word : {b : ℕ} {bs : List ℕ} → is_letter b ≡ true → IsWord bs → IsPiece (b ∷ bs) (word_lexeme (entry_in keywords (b ∷ bs)) (length (b ∷ bs)))
  a_constant : {b : ℕ} {bs : List ℕ} {c : Literal} → is_digit b ≡ true → IsRun false (b ∷ bs) → IsConstant (b ∷ bs) c
      → IsPiece (b ∷ bs) (Numeral c (length (b ∷ bs)))
  no_constant : {b : ℕ} {bs : List ℕ} → is_digit b ≡ true → IsRun false (b ∷ bs) → ((c : Literal) → IsConstant (b ∷ bs) c → ⊥)
      → IsPiece (b ∷ bs) NoConstant
  an_operator : {o : List ℕ} {m : Mark} → entry_in signs o ≡ Some (Some m) → IsPiece o (Sign m (length o))
  an_unused_operator : {o : List ℕ} → entry_in signs o ≡ Some None → IsPiece o (Refused 0)
  a_line : {bs : List ℕ} → IsLine bs → IsPiece (47 ∷ 47 ∷ bs) (comment_piece (length bs + 2) bs)
  a_comment : {bs : List ℕ} → IsClosed bs → IsPiece (47 ∷ 42 ∷ bs) (comment_piece (length bs + 2) bs)
  an_open_comment : {bs : List ℕ} → IsOpen bs → IsPiece (47 ∷ 42 ∷ bs) (Refused 0)
  a_stray_byte : {b : ℕ} → is_space b ≡ false → is_letter b ≡ false → is_digit b ≡ false → entry_in signs (b ∷ []) ≡ None
      → IsPiece (b ∷ []) (Refused 0)

-- the longest front of the bytes that is a piece has this length, and is this
pub record IsLongest (bs : List ℕ) (n : ℕ) (l : Lexeme) : Type 0 where
  pub within : n ≤ length bs
  pub piece : IsPiece (take n bs) l
  pub longest : (m : ℕ) (k : Lexeme) → n < m → m ≤ length bs → IsPiece (take m bs) k → ⊥

-- what stands at the front of a text
pub data IsNext : List ℕ → Lexeme → Type 0 where
  at_end : IsNext [] End
  at_piece : {bs : List ℕ} {n : ℕ} {l : Lexeme} → IsLongest bs n l → IsNext bs l
