-- What may be shown: bytes that steer no terminal.
use Rattle.std.specs.Prelude.{◌≡◌, ◌⊎◌, ℕ, ◌≤◌, ◌&&◌, nat_eq, nat_le, if◌then◌else◌, List, All, IfSome, map}
use Rattle.text.specs.declared.explanation.Explanation.{Explanation}

-- printable ASCII: from the space to `~`
abbrev pub IsPrintable : ℕ → Type 0
IsPrintable byte = (32 ≤ byte) × (byte ≤ 126)

-- a byte of a page: such a one, or a line feed
abbrev pub IsShown : ℕ → Type 0
IsShown byte = IsPrintable byte ⊎ (byte ≡ 10)

-- a byte of the lines below a fault, which quote a source: a tab, too
abbrev pub IsTold : ℕ → Type 0
IsTold byte = IsShown byte ⊎ (byte ≡ 9)

-- an explanation in printable bytes alone, so each part of it is one line
abbrev pub IsPrintableExplanation : Explanation → Type 0
IsPrintableExplanation e =
    All IsPrintable e.message.items × IfSome e.hint (λ hint. All IsPrintable hint.items) × IfSome e.more (λ more. All IsPrintable more.items)

-- a byte as it is shown within a line, `?` where it could steer a terminal
abbrev pub shown_byte : ℕ → ℕ
shown_byte byte = if nat_le 32 byte && nat_le byte 126 then byte else 63

-- a text within a line, such as a file's name, as it is shown
abbrev pub shown_name : List ℕ → List ℕ
shown_name name = map shown_byte name

-- the same in a text of several lines
abbrev pub shown_in_lines : ℕ → ℕ
shown_in_lines byte = if nat_eq byte 10 then 10 else shown_byte byte

-- a text as it stands on a page
abbrev pub shown_text : List ℕ → List ℕ
shown_text text = map shown_in_lines text
