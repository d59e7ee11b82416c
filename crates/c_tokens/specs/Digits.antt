-- How the constant that a run of digits is can be computed: words of private functions.
use Rattle.std.specs.Prelude.{◌+◌, ◌*◌, ◌-◌, ℕ, List, [], ◌∷◌, length, take, Bool, false, nat_eq, nat_le, nat_lt, ◌&&◌, ◌||◌, if◌then◌else◌}
use Rattle.std.specs.Prelude.{Option, Some, None}
use Rattle.c_tokens.specs.declared.token.IntegerType.{IntegerType}
use Rattle.c_tokens.specs.declared.token.IntegerType.TheVariants.{SignedInt, UnsignedInt}
use Rattle.c_tokens.specs.declared.lexer.Lexeme.{Lexeme}
use Rattle.c_tokens.specs.declared.lexer.Lexeme.TheVariants.{Numeral, NoConstant}
use Rattle.c_tokens.specs.Lexing.{is_digit}

-- the value of a digit, or 99
abbrev pub digit_of : ℕ → ℕ
digit_of b = if is_digit b then b - 48 else (if nat_le 97 b && nat_le b 102 then b - 87
    else (if nat_le 65 b && nat_le b 70 then b - 55 else 99))

-- the number that digits spell, after others that spell `n`
abbrev pub digits_of : ℕ → ℕ → List ℕ → Option ℕ
digits_of base n [] = Some n
digits_of base n (b ∷ bs) = if nat_lt (digit_of b) base then digits_of base (n * base + digit_of b) bs else None

-- a value that isn't above a limit
abbrev pub up_to : ℕ → Option ℕ → Option ℕ
up_to limit None = None
up_to limit (Some v) = if nat_le v limit then Some v else None

abbrev pub is_x : ℕ → Bool
is_x b = nat_eq b 120 || nat_eq b 88

-- a number without suffix, and one after its first zero
abbrev pub after_zero : List ℕ → Option ℕ
after_zero (c ∷ d ∷ ds) = if is_x c then digits_of 16 0 (d ∷ ds) else digits_of 8 0 (c ∷ d ∷ ds)
after_zero bs = digits_of 8 0 bs

abbrev pub plain_of : List ℕ → Option ℕ
plain_of [] = None
plain_of (b ∷ bs) = if nat_eq b 48 then after_zero bs else digits_of 10 0 (b ∷ bs)

abbrev pub is_suffix : ℕ → Bool
is_suffix b = nat_eq b 117 || nat_eq b 85

abbrev pub is_octal_or_hexadecimal : List ℕ → Bool
is_octal_or_hexadecimal [] = false
is_octal_or_hexadecimal (b ∷ bs) = nat_eq b 48

abbrev pub last_or : ℕ → List ℕ → ℕ
last_or d [] = d
last_or d (b ∷ bs) = last_or b bs

-- the greatest value of a constant: of decimal ones without suffix, and of others
abbrev pub greatest_of : List ℕ → ℕ
greatest_of run = if is_suffix (last_or 0 run) || is_octal_or_hexadecimal run then 4294967295 else 2147483647

-- the type of a constant: with a suffix, or where `int` can't hold it, it is unsigned
abbrev pub constant_type : List ℕ → ℕ → IntegerType
constant_type run v = if is_suffix (last_or 0 run) || nat_lt 2147483647 v then UnsignedInt else SignedInt

-- the constant of a run that spells a value
abbrev pub valued : List ℕ → Option ℕ → Lexeme
valued run None = NoConstant
valued run (Some v) = Numeral (record { value = v; integer_type = constant_type run v }) (length run)

-- a constant without its suffix
abbrev pub digits_in : List ℕ → List ℕ
digits_in run = if is_suffix (last_or 0 run) then take (length run - 1) run else run

abbrev pub constant_lexeme : List ℕ → Lexeme
constant_lexeme run = valued run (up_to (greatest_of run) (plain_of (digits_in run)))
