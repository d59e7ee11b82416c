-- Bytes that steer no terminal.
use Rattle.std.proofs.Common.{◌≡◌, ℕ, ◌+◌, ◌%◌, ◌^◌, ◌<◌, ◌&&◌, leb, Bool, true, List, [], ◌∷◌, ◌++◌, All, codes, decimal, refl, arith, inl, inr}
use Rattle.std.proofs.lemmas.Fmt.{decimal_by_steps}
use Rattle.std.proofs.lemmas.List.Elements.{All-append, All-cons, All-push}
use Rattle.std.proofs.lemmas.Bool.{and_parts, leb-true}
use Rattle.host.specs.Requests.{TellsBeside}
use Rattle.text.specs.Shown.{IsPrintable, IsShown, IsTold}
use Rattle.host.specs.Texts.{host_fault_text}
use Rattle.host.specs.declared.fault.HostFault.{HostFault}
use Rattle.host.specs.declared.fault.HostFault.TheVariants as faults
use Rattle.host.proofs.Told.{folds_on}

-- what may be shown may be told
pub shown_told : (bytes : List ℕ) → All IsShown bytes → All IsTold bytes
shown_told bytes shown k d within = inl (shown k d within)

none : All IsTold []
none k d lt = absurd (omega (arith, lt))

pub one : (byte : ℕ) → IsPrintable byte → All IsTold (byte ∷ [])
one byte printable = All-push IsTold [] byte none (inl (inl printable))

pub decimals : (n : ℕ) → n < 2 ^ 64 → All IsTold (decimal n)
decimals = decimal_by_steps (λ m ds. All IsTold ds) (λ m l. one (48 + m) (omega (arith, l), omega (arith, l)))
    (λ m ds l h. All-push IsTold ds (48 + m % 10) h (inl (inl (omega arith, omega arith))))

abbrev pub is_printable : ℕ → Bool
is_printable byte = leb 32 byte && leb byte 126

abbrev pub are_printable : List ℕ → Bool
are_printable [] = true
are_printable (x ∷ xs) = is_printable x && are_printable xs

printable_of : (byte : ℕ) → is_printable byte ≡ true → IsPrintable byte
printable_of byte h =
    let both = and_parts (leb 32 byte) (leb byte 126) h in
    (leb-true 32 byte both.0, leb-true byte 126 both.1)

-- the bytes of a literal
pub literal : (xs : List ℕ) → are_printable xs ≡ true → All IsTold xs
literal [] h = none
literal (x ∷ xs) h =
    let both = and_parts (is_printable x) (are_printable xs) h in
    All-cons IsTold x xs (inl (inl (printable_of x both.0))) (literal xs both.1)

-- the line of a fault of the host
pub host_fault : (fault : HostFault) → All IsTold (host_fault_text fault)
host_fault faults.CannotRead = literal (codes "fault 60 CannotRead") refl
host_fault faults.CannotWrite = literal (codes "fault 61 CannotWrite") refl
host_fault faults.NoMemory = literal (codes "fault 30 NoMemory") refl

-- where a fault lies
place : (line column : ℕ) → line < 2 ^ 64 → column < 2 ^ 64
    → All IsTold (codes ":" ++ (decimal line ++ (codes ":" ++ (decimal column ++ codes ":"))))
place line column a b =
    let colon = one 58 (omega arith, omega arith) in
    All-append IsTold (codes ":") _ colon (All-append IsTold (decimal line) _ (decimals line a)
    (All-append IsTold (codes ":") _ colon (All-append IsTold (decimal column) _ (decimals column b) colon)))

-- as a line
pub place_line : (line column : ℕ) → line < 2 ^ 64 → column < 2 ^ 64
    → All IsTold ((codes ":" ++ (decimal line ++ (codes ":" ++ (decimal column ++ codes ":")))) ++ 10 ∷ [])
place_line line column a b = All-push IsTold (codes ":" ++ (decimal line ++ (codes ":" ++ (decimal column ++ codes ":")))) 10 (place line column a b) (inl (inr refl))

module _ {E : Type 0} (tells : E → List ℕ → E → Type 0) where
  -- one piece
  pub told_one : (p q : E) (piece : List ℕ) → tells p piece q → All IsTold piece → TellsBeside tells p (All (All IsTold)) q
  told_one p q piece a shown = (piece ∷ [], (q, a, refl), All-push (All IsTold) [] piece (λ k d lt. absurd (omega (arith, lt))) shown)

  -- pieces that were told, and one more
  pub told_too : (p q r : E) (piece : List ℕ) → TellsBeside tells p (All (All IsTold)) q → tells q piece r → All IsTold piece
      → TellsBeside tells p (All (All IsTold)) r
  told_too p q r piece a b shown =
      (a.0 ++ piece ∷ [], folds_on tells p q r a.0 (piece ∷ []) a.1 (r, b, refl), All-push (All IsTold) a.0 piece a.2 shown)
