-- What a parsing function answers, by the grammar.
use Rattle.std.specs.Prelude.{ℕ, suc, ◌<◌, ◌≡◌, ◌≢◌, List, [], ◌∷◌, ◌++◌, Option, Some, zero}
use Rattle.std.specs.Borrow.{Bor}
use Rattle.c_tokens.specs.declared.token.Identifier.{Identifier}
use Rattle.c_tokens.specs.declared.token.IntegerType.{IntegerType}
use Rattle.c_tokens.specs.declared.token.Token.{Token}
use Rattle.c_tokens.specs.declared.token.Token.TheVariants.{Name, Constant, The}
use Rattle.c_tokens.specs.declared.token.Mark.{Mark}
use Rattle.c_tokens.specs.declared.token.Mark.TheVariants.{Int, Unsigned, Char, Semicolon, LeftParen, RightParen, RightBracket, Colon, Plus, Minus, Bang, Tilde, Assign}
use Rattle.c_tree.specs.declared.tree.BinaryOp.{BinaryOp}
use Rattle.c_front.specs.Grammar.{a_name, a_constant, the, Level, unary_expressions, above, Nonterminal, a_type, after_global, a_statement, else_part, value}
use Rattle.c_front.specs.Grammar.{maybe_simple, maybe_expression, an_expression, Symbol, T, N, Tail, PhraseTree, Operator, if_of, typed_declaration, first}
use Rattle.c_front.specs.Grammar.{second}
use Rattle.c_front.specs.declared.cursor.ParseStop.{ParseStop}
use Rattle.c_front.specs.declared.cursor.ParseStop.TheVariants.{Syntax, NoMemory}
use Rattle.c_tree.specs.Tree.{Expression, Simple, Statement, Declaration, Value}
use Rattle.c_tokens.specs.declared.token.Literal.{Literal}
use Rattle.c_tree.specs.declared.tree.Parameter.{Parameter}
use Rattle.c_front.specs.Reading.{Reads, Stuck}
use Rattle.c_front.specs.Choosing.{EndsOperands}

-- the level of the operands of a binary operator, by its number
abbrev pub level_of : ℕ → Level
level_of zero = unary_expressions
level_of (suc k) = above (level_of k)

-- no operator of these levels stands there
abbrev pub EndsBelow : ℕ → Option Token → Type 0
EndsBelow level next = (k : ℕ) → k < level → EndsOperands (level_of k) next

abbrev pub StartsWith : Mark → List Token → List Token → Type 0
StartsWith t ts rest = ts ≡ The t ∷ rest

abbrev pub StartsWithout : Mark → List Token → Type 0
StartsWithout t ts = first ts ≢ Some (The t)

-- the tokens up to `rest` are a phrase with this meaning
abbrev pub IsRead : (n : Nonterminal) → List Token → List Token → PhraseTree n → Type 0
IsRead n ts rest v = Reads (N n ∷ []) ts rest (v, tt)

-- no derivation of the symbols goes on at the rest of the tokens, whatever is wanted after them
pub data AreStuck (wanted : List Symbol) (ts : List Token) : ParseStop → Type 0 where
  are_stuck : {rest : Bor (List Token)} → ((symbols : List Symbol) → Stuck (wanted ++ symbols) ts rest.now) → AreStuck wanted ts (Syntax rest)
  without_memory : AreStuck wanted ts NoMemory

-- no phrase goes on at the rest of the tokens, whatever is wanted after it
abbrev pub IsStuck : Nonterminal → List Token → ParseStop → Type 0
IsStuck n = AreStuck (N n ∷ [])

-- another token stands there, or none
abbrev pub IsMissing : Mark → List Token → ParseStop → Type 0
IsMissing t ts (Syntax rest) = (rest.now ≡ ts) × (first ts ≢ Some (The t))
IsMissing t ts NoMemory = ⊥

abbrev pub StartsWithOperator : Level → BinaryOp → List Token → List Token → Type 0
StartsWithOperator l o ts rest = (t : Mark) × Operator l o t × (ts ≡ The t ∷ rest)

abbrev pub IsNoPrefix : Mark → Type 0
IsNoPrefix t = (t ≢ Minus) × (t ≢ Plus) × (t ≢ Tilde) × (t ≢ Bang)

-- what stands after a question mark
abbrev pub IsChoiceRead : List Token → List Token → Expression → Expression → Type 0
IsChoiceRead ts rest a b = Reads (N an_expression ∷ T (the Colon) ∷ N an_expression ∷ []) ts rest (a, (tt, (b, tt)))

abbrev pub IsChoiceStuck : List Token → ParseStop → Type 0
IsChoiceStuck = AreStuck (N an_expression ∷ T (the Colon) ∷ N an_expression ∷ [])

abbrev pub StartsWithName : List Token → Identifier → List Token → Type 0
StartsWithName ts x rest = ts ≡ Name x ∷ rest

abbrev pub IsNameMissing : List Token → ParseStop → Type 0
IsNameMissing ts (Syntax rest) = (rest.now ≡ ts) × ((x : Identifier) → first ts ≢ Some (Name x))
IsNameMissing ts NoMemory = ⊥

abbrev pub IsConditionRead : List Token → List Token → Expression → Type 0
IsConditionRead ts rest e = Reads (T (the LeftParen) ∷ N an_expression ∷ T (the RightParen) ∷ []) ts rest (tt, (e, (tt, tt)))

abbrev pub IsConditionStuck : List Token → ParseStop → Type 0
IsConditionStuck = AreStuck (T (the LeftParen) ∷ N an_expression ∷ T (the RightParen) ∷ [])

abbrev pub IsAssignedRead : List Token → List Token → Value → Type 0
IsAssignedRead ts rest v = Reads (T (the Assign) ∷ N value ∷ []) ts rest (tt, (v, tt))

abbrev pub IsAssignedStuck : List Token → ParseStop → Type 0
IsAssignedStuck = AreStuck (T (the Assign) ∷ N value ∷ [])

-- a name and its opening parenthesis
abbrev pub StartsCall : List Token → Identifier → List Token → Type 0
StartsCall ts x rest = ts ≡ Name x ∷ The LeftParen ∷ rest

abbrev pub StartsNoCall : List Token → Type 0
StartsNoCall ts = (x : Identifier) → first ts ≡ Some (Name x) → second ts ≢ Some (The LeftParen)

-- what stands after `if`
abbrev pub IsBranchRead : List Token → List Token → Statement → Type 0
IsBranchRead ts rest s = (e : Expression) × (a : Statement) × (b : Option Statement) ×
    Reads (T (the LeftParen) ∷ N an_expression ∷ T (the RightParen) ∷ N a_statement ∷ N else_part
    ∷ []) ts rest (tt, (e, (tt, (a, (b, tt)))))
    × (s ≡ if_of e a b)

abbrev pub IsBranchStuck : List Token → ParseStop → Type 0
IsBranchStuck = AreStuck (T (the LeftParen) ∷ N an_expression ∷ T (the RightParen) ∷ N a_statement ∷ N else_part ∷ [])

abbrev pub HasNoType : List Token → Type 0
HasNoType ts = (first ts ≢ Some (The Int)) × (first ts ≢ Some (The Unsigned))

-- `unsigned char`
abbrev pub StartsBytes : List Token → List Token → Type 0
StartsBytes ts rest = ts ≡ The Unsigned ∷ The Char ∷ rest

abbrev pub StartsNoBytes : List Token → Type 0
StartsNoBytes ts = first ts ≡ Some (The Unsigned) → second ts ≢ Some (The Char)

abbrev pub StartsWithConstant : List Token → Literal → List Token → Type 0
StartsWithConstant ts k rest = ts ≡ Constant k ∷ rest

abbrev pub IsConstantMissing : List Token → ParseStop → Type 0
IsConstantMissing ts (Syntax rest) = (rest.now ≡ ts) × ((k : Literal) → first ts ≢ Some (Constant k))
IsConstantMissing ts NoMemory = ⊥

abbrev pub StartsUnnamed : List Token → Type 0
StartsUnnamed ts = (x : Identifier) → first ts ≢ Some (Name x)

-- a phrase and the mark after it
abbrev pub IsEndedRead : (n : Nonterminal) → Mark → List Token → List Token → PhraseTree n → Type 0
IsEndedRead n u ts rest v = Reads (N n ∷ T (the u) ∷ []) ts rest (v, (tt, tt))

abbrev pub IsEndedStuck : Nonterminal → Mark → List Token → ParseStop → Type 0
IsEndedStuck n u = AreStuck (N n ∷ T (the u) ∷ [])

-- the parts of a `for` in their parentheses
abbrev pub head_symbols : List Symbol
head_symbols = T (the LeftParen) ∷ N maybe_simple ∷ T (the Semicolon) ∷ N maybe_expression ∷ T (the Semicolon) ∷ N maybe_simple
    ∷ T (the RightParen) ∷ []

abbrev pub IsHeadRead : List Token → List Token → Option Simple → Option Expression → Option Simple → Type 0
IsHeadRead ts rest a b c = Reads head_symbols ts rest (tt, (a, (tt, (b, (tt, (c, (tt, tt)))))))

abbrev pub IsHeadStuck : List Token → ParseStop → Type 0
IsHeadStuck = AreStuck head_symbols

-- the type and the name of a parameter
abbrev pub IsParameterRead : List Token → List Token → Parameter → Type 0
IsParameterRead ts rest p = Reads (N a_type ∷ T a_name ∷ []) ts rest (p.integer_type, (p.name, tt))

abbrev pub IsParameterStuck : List Token → ParseStop → Type 0
IsParameterStuck = AreStuck (N a_type ∷ T a_name ∷ [])

-- what stands after the opening bracket of an array
abbrev pub length_symbols : List Symbol
length_symbols = T a_constant ∷ T (the RightBracket) ∷ T (the Semicolon) ∷ []

abbrev pub IsLengthRead : List Token → List Token → Literal → Type 0
IsLengthRead ts rest n = Reads length_symbols ts rest (n, (tt, (tt, tt)))

abbrev pub IsLengthStuck : List Token → ParseStop → Type 0
IsLengthStuck = AreStuck length_symbols

-- what stands after the type and the name of a declaration
abbrev pub IsTailRead : IntegerType → Identifier → List Token → List Token → Declaration → Type 0
IsTailRead k x ts rest d = (t : Tail) × IsRead after_global ts rest t × (d ≡ typed_declaration k x t)
