-- The fault of a text, by that of its tokens.
use Rattle.std.specs.Prelude.{◌≡◌, ◌⊎◌, ℕ, List, length}
use Rattle.c_tokens.specs.declared.fault.LexFault.{LexFault}
use Rattle.c_tokens.specs.declared.fault.LexFault.TheVariants.{Refused, NoMemory}
use Rattle.c_tokens.specs.Texts.{ArePlaces}
use Rattle.c_front.specs.declared.declaration.SyntaxFault.{SyntaxFault}
use Rattle.c_front.specs.declared.declaration.SyntaxFault.TheVariants.{Wrong, OutOfMemory}
use Rattle.c_front.specs.declared.fault.FrontFault.{FrontFault}
use Rattle.c_front.specs.declared.fault.FrontFaultKind.TheVariants.{Syntax, NoMemory as WantOfMemory}
use Rattle.c_front.specs.Texts.{place_or, refusal_kind}

abbrev pub lexical_fault : ℕ → LexFault → FrontFault
lexical_fault end (Refused r k) = record { kind = refusal_kind r; at = k }
lexical_fault end NoMemory = record { kind = WantOfMemory; at = end }

abbrev pub memory_fault : ℕ → FrontFault
memory_fault end = record { kind = WantOfMemory; at = end }

abbrev pub syntactic_fault : List ℕ → List ℕ → ℕ → FrontFault
syntactic_fault text places k = record { kind = Syntax; at = place_or (length text) places k }

-- a wrong token is told at its place, unless memory is wanted to find it
abbrev pub IsToldAs : List ℕ → SyntaxFault → FrontFault → Type 0
IsToldAs text (Wrong k) told = (told ≡ memory_fault (length text)) ⊎ ((places : List ℕ) × ArePlaces text places × (told ≡ syntactic_fault text places k))
IsToldAs text OutOfMemory told = told ≡ memory_fault (length text)
