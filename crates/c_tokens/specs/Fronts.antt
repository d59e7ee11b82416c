-- How the front of a text is cut: the words of the private functions, which find the longest piece.
use Rattle.std.specs.Prelude.{◌≡◌, ◌≤◌, ◌+◌, ℕ, suc, List, [], ◌∷◌, length, drop, take, Bool, true, false, nat_eq, if◌then◌else◌, Option}
use Rattle.std.specs.Prelude.{Some, None, codes}
use Rattle.c_tokens.specs.declared.token.Mark.{Mark}
use Rattle.c_tokens.specs.declared.lexer.Lexeme.{Lexeme}
use Rattle.c_tokens.specs.declared.lexer.Lexeme.TheVariants.{End, Separator, Sign, Refused}
use Rattle.c_tokens.specs.Lexing.{is_space, is_letter, is_digit, is_word, is_exponent, goes_on, is_front, comment_length, signs}
use Rattle.c_tokens.specs.Lexing.{keywords}
use Rattle.c_tokens.specs.Lexing.{entry_in, word_lexeme}
use Rattle.c_tokens.specs.Pieces.{comment_piece}
use Rattle.c_tokens.specs.Digits.{constant_lexeme, digits_of, is_suffix, last_or}

abbrev pub blank_length : List ℕ → ℕ
blank_length [] = 0
blank_length (b ∷ bs) = if is_space b then suc (blank_length bs) else 0

abbrev pub word_length : List ℕ → ℕ
word_length [] = 0
word_length (b ∷ bs) = if is_word b then suc (word_length bs) else 0

abbrev pub run_length : Bool → List ℕ → ℕ
run_length after_exponent [] = 0
run_length after_exponent (b ∷ bs) = if goes_on after_exponent b then suc (run_length (is_exponent b) bs) else 0

-- how far it is to the next line feed, or the end
abbrev pub line_length : List ℕ → ℕ
line_length [] = 0
line_length (b ∷ bs) = if nat_eq b 10 then 0 else suc (line_length bs)

-- the words of a table that begin with a byte
abbrev pub may_begin : ℕ → List ℕ → Bool
may_begin b [] = true
may_begin b (a ∷ more) = nat_eq a b

abbrev pub kept_if : {A : Type 0} → Bool → A → List A → List A
kept_if true e es = e ∷ es
kept_if false e es = es

abbrev pub beginning : {A : Type 0} → ℕ → List (List ℕ × A) → List (List ℕ × A)
beginning b [] = []
beginning b (e ∷ es) = kept_if (may_begin b e.0) e (beginning b es)

-- the mark of a spelling, if it has one that is in use
abbrev pub mark_of : Option (Option Mark) → Option Mark
mark_of None = None
mark_of (Some m) = m

-- the mark of a spelling and its length, or else what is given; None where it is not in use
abbrev pub spelled_or : Option (Mark × ℕ) → ℕ → Option (Option Mark) → Option (Mark × ℕ)
spelled_or other n None = other
spelled_or other n (Some None) = None
spelled_or other n (Some (Some m)) = Some (m, n)

-- those of the longest spelling at the front, which has three bytes at most
abbrev pub sign_of : List ℕ → Option (Mark × ℕ)
sign_of [] = None
sign_of (a ∷ bs) = spelled_or (spelled_or (spelled_or None 1 (entry_in signs (a ∷ []))) (length (take 2 (a ∷ bs))) (entry_in signs (take 2 (a ∷ bs))))
    (length (take 3 (a ∷ bs))) (entry_in signs (take 3 (a ∷ bs)))

abbrev pub sign_lexeme : Option (Mark × ℕ) → Lexeme
sign_lexeme None = Refused 0
sign_lexeme (Some s) = Sign s.0 s.1

-- a comment whose bytes after the first two are these
abbrev pub ended_lexeme : ℕ → List ℕ → Lexeme
ended_lexeme n bs = comment_piece (n + 2) (take n bs)

abbrev pub comment_lexeme : Option ℕ → List ℕ → Lexeme
comment_lexeme None bs = Refused 0
comment_lexeme (Some n) bs = ended_lexeme n bs

-- what stands at the front of the bytes, where no white space and no word does, or also no number, or also no comment
abbrev pub sign_at : ℕ → List ℕ → Lexeme
sign_at b bs = sign_lexeme (sign_of (b ∷ bs))

abbrev pub line_at : ℕ → List ℕ → Lexeme
line_at b bs = if is_front (codes "//") (b ∷ bs) then ended_lexeme (line_length (drop 1 bs)) (drop 1 bs) else sign_at b bs

abbrev pub comment_at : ℕ → List ℕ → Lexeme
comment_at b bs = if is_front (codes "/*") (b ∷ bs) then comment_lexeme (comment_length (drop 1 bs)) (drop 1 bs) else line_at b bs

abbrev pub constant_at : ℕ → List ℕ → Lexeme
constant_at b bs = if is_digit b then constant_lexeme (take (run_length false (b ∷ bs)) (b ∷ bs)) else comment_at b bs

abbrev pub word_at : ℕ → List ℕ → Lexeme
word_at b bs = if is_letter b then word_lexeme (entry_in keywords (take (word_length (b ∷ bs)) (b ∷ bs))) (word_length (b ∷ bs)) else constant_at b bs

-- what stands at the front of the bytes
abbrev pub lexeme_of : List ℕ → Lexeme
lexeme_of [] = End
lexeme_of (b ∷ bs) = if is_space b then Separator 1 else word_at b bs

-- the first `n` bytes of a text are decimal digits that spell `v`. So much is left to a run, a number and the last byte that go on
-- behind them
pub record SpellsSoFar (text : List ℕ) (n v : ℕ) : Type 0 where
  pub within : n ≤ length text
  pub run : run_length false text ≡ n + run_length false (drop n text)
  pub number : (m : ℕ) → digits_of 10 0 (take (n + m) text) ≡ digits_of 10 v (take m (drop n text))
  pub last : ℕ
  pub plain : is_suffix last ≡ false
  pub ends : (m : ℕ) → last_or 0 (take (n + m) text) ≡ last_or last (take m (drop n text))
