-- What it means that tokens are, or begin, a program, and where the first wrong token is.
use Rattle.std.specs.Prelude.{◌+◌, ◌<◌, ◌≤◌, ℕ, List, ◌++◌, take, length}
use Rattle.c_tokens.specs.declared.token.Token.{Token}
use Rattle.c_front.specs.declared.declaration.SyntaxFault.{SyntaxFault}
use Rattle.c_front.specs.declared.declaration.SyntaxFault.TheVariants.{Wrong, OutOfMemory}
use Rattle.c_tree.specs.Tree.{Declaration}
use Rattle.c_front.specs.Grammar.{Spells}

-- the tokens are the beginning of a program
abbrev pub Begins : List Token → Type 0
Begins ts = (more : List Token) × (p : List Declaration) × Spells (ts ++ more) p

-- k is the place of the first token with which the tokens so far begin no program. It is the number of tokens where they end too early
pub record IsFirstWrong (ts : List Token) (k : ℕ) : Type 0 where
  pub within : k ≤ length ts
  pub before : Begins (take k ts)
  pub wrong : k < length ts → Begins (take (k + 1) ts) → ⊥
  pub none : (p : List Declaration) → Spells ts p → ⊥

abbrev pub IsFault : List Token → SyntaxFault → Type 0
IsFault ts (Wrong k) = IsFirstWrong ts k
IsFault ts OutOfMemory = Unit {0}
