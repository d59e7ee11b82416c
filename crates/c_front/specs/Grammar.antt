-- The grammar: a rule for each alternative, with the tree that it gives.
use Rattle.std.specs.Prelude.{◌≡◌, ◌≢◌, ℕ, List, [], ◌∷◌, Option, Some, None, true, false}
use Rattle.c_tokens.specs.declared.token.Identifier.{Identifier}
use Rattle.c_tokens.specs.declared.token.IntegerType.{IntegerType}
use Rattle.c_tokens.specs.declared.token.IntegerType.TheVariants.{SignedInt, UnsignedInt}
use Rattle.c_tokens.specs.declared.token.JumpWord.{JumpWord}
use Rattle.c_tokens.specs.declared.token.JumpWord.TheVariants.{Break, Continue, Return}
use Rattle.c_tokens.specs.declared.token.Token.{Token}
use Rattle.c_tokens.specs.declared.token.Token.TheVariants.{Name, Constant, Jump, The}
use Rattle.c_tokens.specs.declared.token.Mark.{Mark}
use Rattle.c_tokens.specs.declared.token.Mark.TheVariants.{Int, Unsigned, Char, Void, If, Else, While, For, Semicolon, Comma, LeftBrace}
use Rattle.c_tokens.specs.declared.token.Mark.TheVariants.{RightBrace, LeftParen, RightParen, LeftBracket, RightBracket, Assign, Question}
use Rattle.c_tokens.specs.declared.token.Mark.TheVariants.{Colon}
use Rattle.c_tokens.specs.declared.token.Mark.TheVariants.{Plus, Minus, Star, Slash, Percent}
use Rattle.c_tokens.specs.declared.token.Mark.TheVariants.{Bang, Tilde, BarBar, AndAnd, Bar, Caret, Ampersand, EqualEqual, BangEqual}
use Rattle.c_tokens.specs.declared.token.Mark.TheVariants.{LessSign, GreaterSign}
use Rattle.c_tokens.specs.declared.token.Mark.TheVariants.{LessEqual, GreaterEqual, LessLess, GreaterGreater}
use Rattle.c_tree.specs.declared.tree.UnaryOp.{UnaryOp}
use Rattle.c_tree.specs.declared.tree.UnaryOp.TheVariants.{Negate, Identity, Complement, Not}
use Rattle.c_tree.specs.declared.tree.BinaryOp.{BinaryOp}
use Rattle.c_tree.specs.declared.tree.BinaryOp.TheVariants.{Multiply, Divide, Remainder, Add, Subtract, ShiftLeft, ShiftRight, Less}
use Rattle.c_tree.specs.declared.tree.BinaryOp.TheVariants.{Greater, LessOrEqual}
use Rattle.c_tree.specs.declared.tree.BinaryOp.TheVariants.{GreaterOrEqual, Equal, NotEqual, BitAnd, BitXor, BitOr, LogicalAnd, LogicalOr}
use Rattle.c_tokens.specs.declared.token.Literal.{Literal}
use Rattle.words.specs.declared.width.Width.TheVariants.{Word, Byte}
use Rattle.c_tree.specs.declared.tree.Initial.{Initial}
use Rattle.c_tree.specs.declared.tree.Parameter.{Parameter}
use Rattle.c_tree.specs.Tree.{Expression, constant, name, index, unary, binary, conditional, Call, call, Value, plain, called, Simple}
use Rattle.c_tree.specs.Tree.{assign, assign_at}
use Rattle.c_tree.specs.Tree.{call_statement, Statement, empty, block, if_then, if_then_else, while_loop, for_loop, break_at, continue_at}
use Rattle.c_tree.specs.Tree.{return_at, simply}
use Rattle.c_tree.specs.Tree.{Item, declare, statement, Items, no_items, more_items, Declaration, variable, array, function}

-- what a rule may ask of one token: any name, any constant, one of the keywords that leave a place, or a mark
pub data Sort : Type 0 where
  a_name : Sort
  a_constant : Sort
  a_jump : JumpWord → Sort
  the : Mark → Sort

-- the levels of operands: without a binary operator around them, or one level above others
pub data Level : Type 0 where
  unary_expressions : Level
  above : Level → Level

abbrev pub products : Level
products = above unary_expressions

abbrev pub sums : Level
sums = above products

abbrev pub shifts : Level
shifts = above sums

abbrev pub relations : Level
relations = above shifts

abbrev pub equalities : Level
equalities = above relations

abbrev pub bit_ands : Level
bit_ands = above equalities

abbrev pub bit_xors : Level
bit_xors = above bit_ands

abbrev pub bit_ors : Level
bit_ors = above bit_xors

abbrev pub ands : Level
ands = above bit_ors

abbrev pub ors : Level
ors = above ands

pub data Nonterminal : Type 0 where
  a_program : Nonterminal
  declarations : Nonterminal
  a_declaration : Nonterminal
  a_type : Nonterminal
  maybe_int : Nonterminal
  after_global : Nonterminal
  initial : Nonterminal
  function_rest : Nonterminal
  parameters : Nonterminal
  more_parameters : Nonterminal
  items : Nonterminal
  an_item : Nonterminal
  declared : Nonterminal
  a_statement : Nonterminal
  else_part : Nonterminal
  maybe_simple : Nonterminal
  maybe_expression : Nonterminal
  simple : Nonterminal
  value : Nonterminal
  a_call : Nonterminal
  arguments : Nonterminal
  more_arguments : Nonterminal
  an_expression : Nonterminal
  choice : Nonterminal
  operands : Level → Nonterminal
  more_operands : Level → Nonterminal

pub data Symbol : Type 0 where
  T : Sort → Symbol
  N : Nonterminal → Symbol

-- what stands after the type and the name of a declaration at file scope
pub data Tail : Type 0 where
  variable_tail : Option Initial → Tail
  array_tail : Literal → Tail
  function_tail : List Parameter → Items → Tail

-- what a phrase of each kind means
abbrev pub PhraseTree : Nonterminal → Type 0
PhraseTree a_program = List Declaration
PhraseTree declarations = List Declaration
PhraseTree a_declaration = Declaration
PhraseTree a_type = IntegerType
PhraseTree maybe_int = Unit {0}
PhraseTree after_global = Tail
PhraseTree initial = Initial
PhraseTree function_rest = List Parameter × Items
PhraseTree parameters = List Parameter
PhraseTree more_parameters = List Parameter
PhraseTree items = Items
PhraseTree an_item = Item
PhraseTree declared = Option Value
PhraseTree a_statement = Statement
PhraseTree else_part = Option Statement
PhraseTree maybe_simple = Option Simple
PhraseTree maybe_expression = Option Expression
PhraseTree simple = Simple
PhraseTree value = Value
PhraseTree a_call = Call
PhraseTree arguments = List Expression
PhraseTree more_arguments = List Expression
PhraseTree an_expression = Expression
PhraseTree choice = Option (Expression × Expression)
PhraseTree (operands l) = Expression
PhraseTree (more_operands l) = List (BinaryOp × Expression)

abbrev pub SortTree : Sort → Type 0
SortTree a_name = Identifier
SortTree a_constant = Literal
SortTree (a_jump w) = ℕ
SortTree (the t) = Unit {0}

abbrev pub SymbolTree : Symbol → Type 0
SymbolTree (T s) = SortTree s
SymbolTree (N n) = PhraseTree n

abbrev pub PhraseTrees : List Symbol → Type 0
PhraseTrees [] = Unit {0}
PhraseTrees (s ∷ symbols) = SymbolTree s × PhraseTrees symbols

-- a binary operator stands between operands of its level
pub data Operator : Level → BinaryOp → Mark → Type 0 where
  multiply : Operator unary_expressions Multiply Star
  divide : Operator unary_expressions Divide Slash
  remainder : Operator unary_expressions Remainder Percent
  add : Operator products Add Plus
  subtract : Operator products Subtract Minus
  shift_left : Operator sums ShiftLeft LessLess
  shift_right : Operator sums ShiftRight GreaterGreater
  less : Operator shifts Less LessSign
  greater : Operator shifts Greater GreaterSign
  less_or_equal : Operator shifts LessOrEqual LessEqual
  greater_or_equal : Operator shifts GreaterOrEqual GreaterEqual
  equal : Operator relations Equal EqualEqual
  not_equal : Operator relations NotEqual BangEqual
  bit_and : Operator equalities BitAnd Ampersand
  bit_xor : Operator bit_ands BitXor Caret
  bit_or : Operator bit_xors BitOr Bar
  logical_and : Operator bit_ors LogicalAnd AndAnd
  logical_or : Operator ands LogicalOr BarBar

pub data Prefix : UnaryOp → Mark → Type 0 where
  negate : Prefix Negate Minus
  identity : Prefix Identity Plus
  complement : Prefix Complement Tilde
  not : Prefix Not Bang

pub data Rule : Nonterminal → List Symbol → Type 0 where
  program_rule : Rule a_program (N declarations ∷ [])
  declarations_end : Rule declarations []
  declarations_more : Rule declarations (N a_declaration ∷ N declarations ∷ [])
  declaration_typed : Rule a_declaration (N a_type ∷ T a_name ∷ N after_global ∷ [])
  declaration_bytes : Rule a_declaration (T (the Unsigned) ∷ T (the Char) ∷ T a_name ∷ T (the LeftBracket) ∷ T a_constant
      ∷ T (the RightBracket)
      ∷ T (the Semicolon) ∷ [])
  declaration_void : Rule a_declaration (T (the Void) ∷ T a_name ∷ N function_rest ∷ [])
  type_int : Rule a_type (T (the Int) ∷ [])
  type_unsigned : Rule a_type (T (the Unsigned) ∷ N maybe_int ∷ [])
  int_none : Rule maybe_int []
  int_some : Rule maybe_int (T (the Int) ∷ [])
  global_plain : Rule after_global (T (the Semicolon) ∷ [])
  global_initial : Rule after_global (T (the Assign) ∷ N initial ∷ T (the Semicolon) ∷ [])
  global_array : Rule after_global (T (the LeftBracket) ∷ T a_constant ∷ T (the RightBracket) ∷ T (the Semicolon) ∷ [])
  global_function : Rule after_global (N function_rest ∷ [])
  initial_plain : Rule initial (T a_constant ∷ [])
  initial_negative : Rule initial (T (the Minus) ∷ T a_constant ∷ [])
  function_rule : Rule function_rest (T (the LeftParen) ∷ N parameters ∷ T (the RightParen) ∷ T (the LeftBrace) ∷ N items
      ∷ T (the RightBrace) ∷ [])
  parameters_void : Rule parameters (T (the Void) ∷ [])
  parameters_some : Rule parameters (N a_type ∷ T a_name ∷ N more_parameters ∷ [])
  more_parameters_end : Rule more_parameters []
  more_parameters_more : Rule more_parameters (T (the Comma) ∷ N a_type ∷ T a_name ∷ N more_parameters ∷ [])
  items_end : Rule items []
  items_more : Rule items (N an_item ∷ N items ∷ [])
  item_declare : Rule an_item (N a_type ∷ T a_name ∷ N declared ∷ T (the Semicolon) ∷ [])
  item_statement : Rule an_item (N a_statement ∷ [])
  declared_none : Rule declared []
  declared_some : Rule declared (T (the Assign) ∷ N value ∷ [])
  statement_empty : Rule a_statement (T (the Semicolon) ∷ [])
  statement_block : Rule a_statement (T (the LeftBrace) ∷ N items ∷ T (the RightBrace) ∷ [])
  statement_if : Rule a_statement (T (the If) ∷ T (the LeftParen) ∷ N an_expression ∷ T (the RightParen) ∷ N a_statement ∷ N else_part ∷ [])
  statement_while : Rule a_statement (T (the While) ∷ T (the LeftParen) ∷ N an_expression ∷ T (the RightParen) ∷ N a_statement ∷ [])
  statement_for : Rule a_statement (T (the For) ∷ T (the LeftParen) ∷ N maybe_simple ∷ T (the Semicolon) ∷ N maybe_expression
      ∷ T (the Semicolon) ∷ N
      maybe_simple ∷ T (the RightParen) ∷ N a_statement ∷ [])
  statement_break : Rule a_statement (T (a_jump Break) ∷ T (the Semicolon) ∷ [])
  statement_continue : Rule a_statement (T (a_jump Continue) ∷ T (the Semicolon) ∷ [])
  statement_return : Rule a_statement (T (a_jump Return) ∷ N maybe_expression ∷ T (the Semicolon) ∷ [])
  statement_simple : Rule a_statement (N simple ∷ T (the Semicolon) ∷ [])
  else_none : Rule else_part []
  else_some : Rule else_part (T (the Else) ∷ N a_statement ∷ [])
  simple_none : Rule maybe_simple []
  simple_some : Rule maybe_simple (N simple ∷ [])
  expression_none : Rule maybe_expression []
  expression_some : Rule maybe_expression (N an_expression ∷ [])
  simple_assign : Rule simple (T a_name ∷ T (the Assign) ∷ N value ∷ [])
  simple_assign_at : Rule simple (T a_name ∷ T (the LeftBracket) ∷ N an_expression ∷ T (the RightBracket) ∷ T (the Assign) ∷ N an_expression
      ∷ [])
  simple_call : Rule simple (N a_call ∷ [])
  value_plain : Rule value (N an_expression ∷ [])
  value_call : Rule value (N a_call ∷ [])
  call_rule : Rule a_call (T a_name ∷ T (the LeftParen) ∷ N arguments ∷ T (the RightParen) ∷ [])
  arguments_none : Rule arguments []
  arguments_some : Rule arguments (N an_expression ∷ N more_arguments ∷ [])
  more_arguments_end : Rule more_arguments []
  more_arguments_more : Rule more_arguments (T (the Comma) ∷ N an_expression ∷ N more_arguments ∷ [])
  expression_rule : Rule an_expression (N (operands ors) ∷ N choice ∷ [])
  choice_none : Rule choice []
  choice_some : Rule choice (T (the Question) ∷ N an_expression ∷ T (the Colon) ∷ N an_expression ∷ [])
  operands_rule : {l : Level} → Rule (operands (above l)) (N (operands l) ∷ N (more_operands l) ∷ [])
  operands_end : {l : Level} → Rule (more_operands l) []
  operands_more : {l : Level} {o : BinaryOp} {t : Mark} → Operator l o t
      → Rule (more_operands l) (T (the t) ∷ N (operands l) ∷ N (more_operands l) ∷ [])
  operand_constant : Rule (operands unary_expressions) (T a_constant ∷ [])
  operand_name : Rule (operands unary_expressions) (T a_name ∷ [])
  operand_index : Rule (operands unary_expressions) (T a_name ∷ T (the LeftBracket) ∷ N an_expression ∷ T (the RightBracket) ∷ [])
  operand_unary : {o : UnaryOp} {t : Mark} → Prefix o t
      → Rule (operands unary_expressions) (T (the t) ∷ N (operands unary_expressions) ∷ [])
  operand_paren : Rule (operands unary_expressions) (T (the LeftParen) ∷ N an_expression ∷ T (the RightParen) ∷ [])

-- binary operators group from the left
abbrev pub grouping_of : Expression → List (BinaryOp × Expression) → Expression
grouping_of e [] = e
grouping_of e (m ∷ ms) = grouping_of (binary m.0 e m.1) ms

abbrev pub conditional_of : Expression → Option (Expression × Expression) → Expression
conditional_of c None = c
conditional_of c (Some m) = conditional c m.0 m.1

abbrev pub if_of : Expression → Statement → Option Statement → Statement
if_of c s None = if_then c s
if_of c s (Some e) = if_then_else c s e

abbrev pub operator_of_rule : {l : Level} {o : BinaryOp} {t : Mark} → Operator l o t → BinaryOp
operator_of_rule {o = o} r = o

abbrev pub prefix_of_rule : {o : UnaryOp} {t : Mark} → Prefix o t → UnaryOp
prefix_of_rule {o = o} r = o

-- the declaration of a name after `int` or `unsigned int`
abbrev pub typed_declaration : IntegerType → Identifier → Tail → Declaration
typed_declaration k x (variable_tail i) = variable k x i
typed_declaration k x (array_tail n) = array Word k x n
typed_declaration k x (function_tail ps is) = function (Some k) x ps is

-- the tree of a phrase from those of its parts
abbrev pub tree_of : {n : Nonterminal} {symbols : List Symbol} → Rule n symbols → PhraseTrees symbols → PhraseTree n
tree_of program_rule m = m.0
tree_of declarations_more m = m.0 ∷ m.1.0
tree_of declaration_typed m = typed_declaration m.0 m.1.0 m.1.1.0
tree_of declaration_bytes m = array Byte SignedInt m.1.1.0 m.1.1.1.1.0
tree_of declaration_void m = function None m.1.0 m.1.1.0.0 m.1.1.0.1
tree_of type_int m = SignedInt
tree_of type_unsigned m = UnsignedInt
tree_of int_none m = tt
tree_of int_some m = tt
tree_of global_plain m = variable_tail None
tree_of global_initial m = variable_tail (Some m.1.0)
tree_of global_array m = array_tail m.1.0
tree_of global_function m = function_tail m.0.0 m.0.1
tree_of initial_plain m = record { negative = false; literal = m.0 }
tree_of initial_negative m = record { negative = true; literal = m.1.0 }
tree_of function_rule m = (m.1.0, m.1.1.1.1.0)
tree_of parameters_some m = record { integer_type = m.0; name = m.1.0 } ∷ m.1.1.0
tree_of more_parameters_more m = record { integer_type = m.1.0; name = m.1.1.0 } ∷ m.1.1.1.0
tree_of items_end m = no_items
tree_of items_more m = more_items m.0 m.1.0
tree_of item_declare m = declare m.0 m.1.0 m.1.1.0
tree_of item_statement m = statement m.0
tree_of declared_none m = None
tree_of declared_some m = Some m.1.0
tree_of statement_empty m = empty
tree_of statement_block m = block m.1.0
tree_of statement_if m = if_of m.1.1.0 m.1.1.1.1.0 m.1.1.1.1.1.0
tree_of statement_while m = while_loop m.1.1.0 m.1.1.1.1.0
tree_of statement_for m = for_loop m.1.1.0 m.1.1.1.1.0 m.1.1.1.1.1.1.0 m.1.1.1.1.1.1.1.1.0
tree_of statement_break m = break_at m.0
tree_of statement_continue m = continue_at m.0
tree_of statement_return m = return_at m.0 m.1.0
tree_of statement_simple m = simply m.0
tree_of simple_none m = None
tree_of simple_some m = Some m.0
tree_of expression_none m = None
tree_of expression_some m = Some m.0
tree_of else_none m = None
tree_of else_some m = Some m.1.0
tree_of simple_assign m = assign m.0 m.1.1.0
tree_of simple_assign_at m = assign_at m.0 m.1.1.0 m.1.1.1.1.1.0
tree_of simple_call m = call_statement m.0
tree_of value_plain m = plain m.0
tree_of value_call m = called m.0
tree_of call_rule m = call m.0 m.1.1.0
tree_of arguments_some m = m.0 ∷ m.1.0
tree_of more_arguments_more m = m.1.0 ∷ m.1.1.0
tree_of expression_rule m = conditional_of m.0 m.1.0
tree_of choice_none m = None
tree_of choice_some m = Some (m.1.0, m.1.1.1.0)
tree_of operands_rule m = grouping_of m.0 m.1.0
tree_of (operands_more r) m = (operator_of_rule r, m.1.0) ∷ m.1.1.0
tree_of operand_constant m = constant m.0
tree_of operand_name m = name m.0
tree_of operand_index m = index m.0 m.1.1.0
tree_of (operand_unary r) m = unary (prefix_of_rule r) m.1.0
tree_of operand_paren m = m.1.0
tree_of _ m = []

abbrev pub first : List Token → Option Token
first [] = None
first (t ∷ ts) = Some t

abbrev pub second : List Token → Option Token
second [] = None
second (t ∷ ts) = first ts

-- an `else` belongs to the nearest `if`: one without it isn't followed by it
abbrev pub MayPrecede : {n : Nonterminal} {symbols : List Symbol} → Rule n symbols → Option Token → Type 0
MayPrecede else_none next = next ≢ Some (The Else)
MayPrecede _ next = Unit {0}

pub data IsToken : (s : Sort) → Token → SortTree s → Type 0 where
  is_name : {x : Identifier} → IsToken a_name (Name x) x
  is_constant : {k : Literal} → IsToken a_constant (Constant k) k
  is_jump : {w : JumpWord} {at : ℕ} → IsToken (a_jump w) (Jump w at) at
  is_the : {t : Mark} → IsToken (the t) (The t) tt

-- the tokens up to `rest` are derived from the symbols, with these trees
pub data Derives : (symbols : List Symbol) → List Token → List Token → PhraseTrees symbols → Type 0 where
  nothing : {ts : List Token} → Derives [] ts ts tt
  token : {s : Sort} {symbols : List Symbol} {t : Token} {ts rest : List Token} {v : SortTree s} {m : PhraseTrees symbols} →
      IsToken s t v → Derives symbols ts rest m → Derives (T s ∷ symbols) (t ∷ ts) rest (v, m)
  phrase : {n : Nonterminal} {inner symbols : List Symbol} {ts middle rest : List Token} {v : PhraseTrees inner} {w : PhraseTree n}
      {m : PhraseTrees symbols} →
      (r : Rule n inner) → Derives inner ts middle v → MayPrecede r (first middle) → w ≡ tree_of r v →
      Derives symbols middle rest m → Derives (N n ∷ symbols) ts rest (w, m)

-- the tokens are those of a program
abbrev pub Spells : List Token → List Declaration → Type 0
Spells ts p = Derives (N a_program ∷ []) ts [] (p, tt)
