-- The classes of bytes, and the tables of operators and keywords (C99 6.4.1, 6.4.6).
use Rattle.std.specs.Prelude.{ℕ, suc, List, [], ◌∷◌, Bool, true, false, nat_eq, nat_le, ◌&&◌, ◌||◌, if◌then◌else◌, Option, Some}
use Rattle.std.specs.Prelude.{None, codes}
use Rattle.c_tokens.specs.declared.token.JumpWord.TheVariants.{Break, Continue, Return}
use Rattle.c_tokens.specs.declared.token.Mark.{Mark}
use Rattle.c_tokens.specs.declared.token.Mark.TheVariants.{Int, Unsigned, Char, Void, If, Else, While, For, Semicolon, Comma, LeftBrace}
use Rattle.c_tokens.specs.declared.token.Mark.TheVariants.{RightBrace, LeftParen}
use Rattle.c_tokens.specs.declared.token.Mark.TheVariants.{RightParen, LeftBracket, RightBracket, Assign, Question, Colon, Plus, Minus}
use Rattle.c_tokens.specs.declared.token.Mark.TheVariants.{Star, Slash, Percent}
use Rattle.c_tokens.specs.declared.token.Mark.TheVariants.{Bang, Tilde, BarBar, AndAnd, Bar, Caret, Ampersand, EqualEqual, BangEqual}
use Rattle.c_tokens.specs.declared.token.Mark.TheVariants.{LessSign, GreaterSign}
use Rattle.c_tokens.specs.declared.token.Mark.TheVariants.{LessEqual, GreaterEqual, LessLess, GreaterGreater}
use Rattle.c_tokens.specs.declared.lexer.Lexeme.{Lexeme}
use Rattle.c_tokens.specs.declared.lexer.Lexeme.TheVariants.{Word, Sign, Leap, Refused}
use Rattle.c_tokens.specs.declared.keywords.Reserved.{Reserved}
use Rattle.c_tokens.specs.declared.keywords.Reserved.TheVariants.{Marked, Jumping, Unused}

abbrev pub is_space : ℕ → Bool
is_space b = nat_eq b 32 || nat_eq b 9 || nat_eq b 10 || nat_eq b 13

abbrev pub is_letter : ℕ → Bool
is_letter b = (nat_le 65 b && nat_le b 90) || (nat_le 97 b && nat_le b 122) || nat_eq b 95

abbrev pub is_digit : ℕ → Bool
is_digit b = nat_le 48 b && nat_le b 57

abbrev pub is_word : ℕ → Bool
is_word b = is_letter b || is_digit b

abbrev pub is_exponent : ℕ → Bool
is_exponent b = nat_eq b 101 || nat_eq b 69 || nat_eq b 112 || nat_eq b 80

-- a number goes on with the byte
abbrev pub goes_on : Bool → ℕ → Bool
goes_on after_exponent b = is_word b || nat_eq b 46 || (after_exponent && (nat_eq b 43 || nat_eq b 45))

abbrev pub is_front : List ℕ → List ℕ → Bool
is_front [] bs = true
is_front (a ∷ more) [] = false
is_front (a ∷ more) (b ∷ bs) = nat_eq a b && is_front more bs

abbrev pub one_more : Option ℕ → Option ℕ
one_more None = None
one_more (Some n) = Some (suc n)

-- how far it is past the next `*/`
abbrev pub comment_length : List ℕ → Option ℕ
comment_length [] = None
comment_length (b ∷ bs) = if is_front (codes "*/") (b ∷ bs) then Some 2 else one_more (comment_length bs)

-- where the first backslash stands, or the first two question marks in a row
abbrev pub escape_at : List ℕ → Option ℕ
escape_at [] = None
escape_at (b ∷ bs) = if nat_eq b 92 || is_front (codes "??") (b ∷ bs) then Some 0 else one_more (escape_at bs)

-- the spellings of operators and brackets; those without a mark are refused
abbrev pub signs : List (List ℕ × Option Mark)
signs =
    (codes "(", Some LeftParen) ∷ (codes ")", Some RightParen) ∷ (codes "{", Some LeftBrace) ∷ (codes "}", Some RightBrace) ∷
    (codes "[", Some LeftBracket) ∷ (codes "]", Some RightBracket) ∷ (codes ";", Some Semicolon) ∷ (codes ",", Some Comma) ∷
    (codes "=", Some Assign) ∷ (codes "?", Some Question) ∷ (codes ":", Some Colon) ∷ (codes "||", Some BarBar)
    ∷ (codes "&&", Some AndAnd) ∷
    (codes "|", Some Bar) ∷ (codes "^", Some Caret) ∷ (codes "&", Some Ampersand) ∷ (codes "==", Some EqualEqual)
    ∷ (codes "!=", Some BangEqual) ∷
    (codes "<", Some LessSign) ∷ (codes ">", Some GreaterSign) ∷ (codes "<=", Some LessEqual) ∷ (codes ">=", Some GreaterEqual)
    ∷ (codes "<<", Some LessLess)
    ∷ (codes ">>", Some GreaterGreater) ∷
    (codes "+", Some Plus) ∷ (codes "-", Some Minus) ∷ (codes "*", Some Star) ∷ (codes "/", Some Slash) ∷ (codes "%", Some Percent)
    ∷ (codes "~", Some Tilde)
    ∷ (codes "!", Some Bang) ∷
    (codes "++", None) ∷ (codes "--", None) ∷ (codes "+=", None) ∷ (codes "-=", None) ∷ (codes "*=", None) ∷ (codes "/=", None)
    ∷ (codes "%=", None) ∷
    (codes "<<=", None) ∷ (codes ">>=", None) ∷ (codes "&=", None) ∷ (codes "|=", None) ∷ (codes "^=", None) ∷ (codes "->", None)
    ∷ (codes ".", None) ∷
    (codes "...", None) ∷ (codes "#", None) ∷ (codes "##", None) ∷ (codes "??", None) ∷ []

-- the 37 keywords of C99; those that are not in use are refused
abbrev pub keywords : List (List ℕ × Reserved)
keywords =
    (codes "int", Marked Int) ∷ (codes "unsigned", Marked Unsigned) ∷ (codes "char", Marked Char) ∷ (codes "void", Marked Void)
    ∷ (codes "if", Marked If) ∷
    (codes "else", Marked Else) ∷ (codes "while", Marked While) ∷ (codes "for", Marked For) ∷ (codes "break", Jumping Break) ∷
    (codes "continue", Jumping Continue) ∷ (codes "return", Jumping Return) ∷
    (codes "auto", Unused) ∷ (codes "case", Unused) ∷ (codes "const", Unused) ∷ (codes "default", Unused) ∷ (codes "do", Unused)
    ∷ (codes "double", Unused) ∷ (codes "enum", Unused) ∷ (codes "extern", Unused) ∷
    (codes "float", Unused) ∷ (codes "goto", Unused) ∷ (codes "inline", Unused) ∷ (codes "long", Unused) ∷ (codes "register", Unused)
    ∷ (codes "restrict", Unused) ∷ (codes "short", Unused) ∷ (codes "signed", Unused) ∷ (codes "sizeof", Unused) ∷
    (codes "static", Unused) ∷ (codes "struct", Unused) ∷ (codes "switch", Unused) ∷ (codes "typedef", Unused) ∷ (codes "union", Unused)
    ∷ (codes "volatile", Unused) ∷ (codes "_Bool", Unused) ∷ (codes "_Complex", Unused) ∷ (codes "_Imaginary", Unused) ∷ []

abbrev pub same_bytes : List ℕ → List ℕ → Bool
same_bytes [] [] = true
same_bytes [] (b ∷ bs) = false
same_bytes (a ∷ more) [] = false
same_bytes (a ∷ more) (b ∷ bs) = same_bytes more bs && nat_eq a b

-- what a table has for some bytes
abbrev pub entry_in : {A : Type 0} → List (List ℕ × A) → List ℕ → Option A
entry_in [] o = None
entry_in (e ∷ es) o = if same_bytes e.0 o then Some e.1 else entry_in es o

-- a word of some bytes, by what it is among the keywords
abbrev pub word_lexeme : Option Reserved → ℕ → Lexeme
word_lexeme None n = Word n
word_lexeme (Some (Marked m)) n = Sign m n
word_lexeme (Some (Jumping w)) n = Leap w n
word_lexeme (Some Unused) n = Refused 0
