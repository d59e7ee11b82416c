-- Faults of bytes and of tokens are faults of the text.
use Rattle.std.proofs.Common.{◌≡◌, ◌≤◌, ℕ, List, [], length, inl, inr}
use Rattle.c_tokens.specs.declared.sizes.TheConstants.{MAX_TEXT}
use Rattle.c_tokens.specs.declared.token.Token.{Token}
use Rattle.c_tokens.specs.declared.fault.LexFault.{LexFault}
use Rattle.c_tokens.specs.declared.fault.LexFault.TheVariants.{Refused, NoMemory}
use Rattle.c_tokens.specs.Texts.{IsLexFault, Lexes}
use Rattle.c_front.specs.declared.declaration.SyntaxFault.{SyntaxFault}
use Rattle.c_front.specs.declared.declaration.SyntaxFault.TheVariants.{Wrong, OutOfMemory}
use Rattle.c_front.specs.Syntax.{IsFault}
use Rattle.c_front.specs.declared.fault.FrontFault.{FrontFault}
use Rattle.c_front.specs.Texts.{IsTextFault, AllText, bad_token, bad_syntax, no_memory}
use Rattle.c_front.specs.Faults.{lexical_fault, memory_fault, IsToldAs}

pub lexical-is : (text : List ℕ) (f : LexFault) (r : FrontFault) → length text ≤ MAX_TEXT → AllText text → IsLexFault text f → r ≡ lexical_fault (length text) f
    → IsTextFault text r.kind r.at
lexical-is text (Refused r k) _ a b h e = rw e (bad_token a b h)
lexical-is text NoMemory _ a b h e = rw e (no_memory a b)

pub told-memory : (text : List ℕ) (r : FrontFault) → length text ≤ MAX_TEXT → AllText text → r ≡ memory_fault (length text) → IsTextFault text r.kind r.at
told-memory text r a b e = rw e (no_memory a b)

pub syntactic-is : (text : List ℕ) (tokens ts : List Token) (f : SyntaxFault) (r : FrontFault) → length text ≤ MAX_TEXT → AllText text
    → (places : List ℕ) × Lexes 0 text [] tokens places → ts ≡ tokens → IsFault ts f → IsToldAs text f r → IsTextFault text r.kind r.at
syntactic-is text tokens ts (Wrong k) r a b l p h (inl e) = told-memory text r a b e
syntactic-is text tokens ts (Wrong k) r a b l p h (inr t) = rw (t.2, t.1 tokens l.0 l.1) (bad_syntax a b l.1 (rw p at h))
syntactic-is text tokens ts OutOfMemory r a b l p h e = told-memory text r a b e
