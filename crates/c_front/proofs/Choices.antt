-- The rule that is chosen where some tokens are not there, and the trees of lists.
use Rattle.std.proofs.Common.{◌≡◌, ◌≢◌, List, [], ◌∷◌, Option, Some, None, refl, ap, ◌++◌, sym, ◌<◌, length, arith, length-append, ◌∙◌}
use Rattle.c_tokens.specs.declared.token.Identifier.{Identifier}
use Rattle.c_tokens.specs.declared.token.Token.{Token}
use Rattle.c_tokens.specs.declared.token.Token.TheVariants.{Name, The}
use Rattle.c_tokens.specs.declared.token.Mark.{Mark}
use Rattle.c_tokens.specs.declared.token.Mark.TheVariants.{Int, Unsigned, If, While, For, Semicolon, LeftBrace, RightBrace, Assign, Char, Void, Comma}
use Rattle.c_tokens.specs.declared.token.Mark.TheVariants.{LeftBracket, Minus, LeftParen, RightParen, Question, Else}
use Rattle.c_front.specs.Grammar.{PhraseTrees, item_declare, type_int, type_unsigned, Level, else_part, choice, declarations, items, operands}
use Rattle.c_front.specs.Grammar.{more_operands, unary_expressions, above, ors, operand_name, operands_rule, operands_end, expression_rule, choice_none}
use Rattle.c_front.specs.Grammar.{maybe_int, an_item, declared, a_statement, maybe_simple, maybe_expression, an_expression, N, a_name, a_declaration}
use Rattle.c_front.specs.Grammar.{a_type, after_global, initial, parameters, more_parameters, T, declaration_typed, first, second, the, Nonterminal}
use Rattle.c_front.specs.Grammar.{simple, value, a_call, arguments, more_arguments, Symbol, Rule, simple_assign, value_plain, call_rule, is_name}
use Rattle.c_front.specs.Grammar.{is_the}
use Rattle.c_front.specs.Choosing.{one_choice, StartsItem, chosen_rule, Peeks}
use Rattle.c_front.specs.declared.cursor.ParseStop.{ParseStop}
use Rattle.c_front.specs.declared.cursor.ParseStop.TheVariants.{Syntax, NoMemory}
use Rattle.c_tree.specs.Tree.{Items, no_items, more_items, Declaration, name}
use Rattle.c_front.specs.Parsing.{IsNameMissing, StartsUnnamed, IsStuck, StartsCall, StartsNoCall, are_stuck, without_memory, IsEndedStuck}
use Rattle.c_tree.specs.Shape.{declaration_of, declarations_of, expression_of, expressions_of, item_of, items_of}
use Rattle.c_front.specs.Reading.{Reads, read_nothing, read_token, read_phrase, Stuck, stuck_past, stuck_inside}
use Rattle.c_tree.specs.declared.tree.Expression.{Expression}
use Rattle.c_front.proofs.Reading.{stuck-within, StuckAt, stuck_at, dead}
use Rattle.c_tree.specs.declared.tree.Item.{Item}
use Rattle.c_tree.specs.declared.tree.Declaration as Rust
use Rattle.c_tree.specs.Tree as Tree

-- items after some others
abbrev pub after_items : Items → Items → Items
after_items no_items more = more
after_items (more_items i rest) more = more_items i (after_items rest more)

pub after-none : (all : Items) → after_items all no_items ≡ all
after-none no_items = refl
after-none (more_items i rest) = ap (more_items i) (after-none rest)

pub after-after : (a b c : Items) → after_items (after_items a b) c ≡ after_items a (after_items b c)
after-after no_items b c = refl
after-after (more_items i rest) b c = ap (more_items i) (after-after rest b c)

-- the trees of lists
pub items_of-append : (xs : List Item) (i : Item) → items_of (xs ++ i ∷ []) ≡ after_items (items_of xs) (more_items (item_of i) no_items)
items_of-append [] i = refl
items_of-append (x ∷ xs) i = ap (more_items (item_of x)) (items_of-append xs i)

pub declarations_of-append : (xs : List Rust.Declaration) (d : Rust.Declaration) → declarations_of (xs ++ d ∷ []) ≡ declarations_of xs ++ declaration_of d ∷ []
declarations_of-append [] d = refl
declarations_of-append (x ∷ xs) d = ap (λ (y : List Declaration). declaration_of x ∷ y) (declarations_of-append xs d)

pub expressions_of-append : (xs : List Expression) (e : Expression) → expressions_of (xs ++ e ∷ []) ≡ expressions_of xs ++ expression_of e ∷ []
expressions_of-append [] e = refl
expressions_of-append (x ∷ xs) e = ap (λ (y : List Tree.Expression). expression_of x ∷ y) (expressions_of-append xs e)

-- the token is none of those that have a rule of their own in a phrase
abbrev pub IsOther : Nonterminal → Option Token → Type 0
IsOther a_type next = (next ≢ Some (The Int)) × (next ≢ Some (The Unsigned))
IsOther maybe_int next = next ≢ Some (The Int)
IsOther after_global next = (next ≢ Some (The Semicolon)) × (next ≢ Some (The Assign)) × (next ≢ Some (The LeftBracket))
IsOther initial next = next ≢ Some (The Minus)
IsOther parameters next = next ≢ Some (The Void)
IsOther more_parameters next = next ≢ Some (The Comma)
IsOther an_item next = (next ≢ Some (The Int)) × (next ≢ Some (The Unsigned))
IsOther declared next = next ≢ Some (The Assign)
IsOther else_part next = next ≢ Some (The Else)
IsOther maybe_simple next = (x : Identifier) → next ≢ Some (Name x)
IsOther maybe_expression next = next ≢ Some (The Semicolon)
IsOther arguments next = next ≢ Some (The RightParen)
IsOther more_arguments next = next ≢ Some (The Comma)
IsOther choice next = next ≢ Some (The Question)
IsOther _ next = ⊥

-- any other token chooses the rule that is chosen where the tokens end
pub otherwise : (n : Nonterminal) (next : Option Token) → IsOther n next → one_choice n next ≡ one_choice n None
otherwise a_type (Some (The Int)) h = absurd (h.0 refl)
otherwise a_type (Some (The Unsigned)) h = absurd (h.1 refl)
otherwise maybe_int (Some (The Int)) h = absurd (h refl)
otherwise after_global (Some (The Semicolon)) h = absurd (h.0 refl)
otherwise after_global (Some (The Assign)) h = absurd (h.1 refl)
otherwise after_global (Some (The LeftBracket)) h = absurd (h.2 refl)
otherwise initial (Some (The Minus)) h = absurd (h refl)
otherwise parameters (Some (The Void)) h = absurd (h refl)
otherwise more_parameters (Some (The Comma)) h = absurd (h refl)
otherwise an_item (Some (The Int)) h = absurd (h.0 refl)
otherwise an_item (Some (The Unsigned)) h = absurd (h.1 refl)
otherwise declared (Some (The Assign)) h = absurd (h refl)
otherwise else_part (Some (The Else)) h = absurd (h refl)
otherwise maybe_simple (Some (Name x)) h = absurd (h x refl)
otherwise maybe_expression (Some (The Semicolon)) h = absurd (h refl)
otherwise arguments (Some (The RightParen)) h = absurd (h refl)
otherwise more_arguments (Some (The Comma)) h = absurd (h refl)
otherwise choice (Some (The Question)) h = absurd (h refl)
otherwise declarations _ h = absurd h
otherwise items _ h = absurd h
otherwise a_statement _ h = absurd h
otherwise (operands l) _ h = absurd h
otherwise (more_operands l) _ h = absurd h
otherwise _ _ h = refl

-- what no rule of a statement begins with
pub no-mark : (t : Mark) → t ≢ Semicolon → t ≢ LeftBrace → t ≢ If → t ≢ While → t ≢ For → one_choice a_statement (Some (The t)) ≡ None
no-mark Semicolon a b c d e = absurd (a refl)
no-mark LeftBrace a b c d e = absurd (b refl)
no-mark If a b c d e = absurd (c refl)
no-mark While a b c d e = absurd (d refl)
no-mark For a b c d e = absurd (e refl)
no-mark _ a b c d e = refl

pub item-follows : (t : Token) → t ≢ The RightBrace → StartsItem (Some t)
item-follows (The RightBrace) h = absurd (h refl)
item-follows _ h = refl

pub unnamed : (ts : List Token) (s : ParseStop) → IsNameMissing ts s → StartsUnnamed ts
unnamed ts (Syntax rest) h = h.1
unnamed ts NoMemory h = elim h [ ]

pub chosen-typed : (next after : Option Token) → next ≢ Some (The Void) → (next ≡ Some (The Unsigned) → after ≢ Some (The Char))
    → chosen_rule a_declaration next after ≡ Some (N a_type ∷ T a_name ∷ N after_global ∷ [], declaration_typed)
chosen-typed (Some (The Void)) after h k = absurd (h refl)
chosen-typed (Some (The Unsigned)) (Some (The Char)) h k = absurd (k refl refl)
chosen-typed _ _ h k = refl

pub no-unsigned : (next : Option Token) → next ≢ Some (The Unsigned) → Peeks a_declaration next → ⊥
no-unsigned (Some (The Unsigned)) h k = h refl
no-unsigned _ h k = k

pub type-item : {ts rest : List Token} {m : PhraseTrees (N a_type ∷ [])} → Reads (N a_type ∷ []) ts rest m
    → one_choice an_item (first ts) ≡ Some (N a_type ∷ T a_name ∷ N declared ∷ T (the Semicolon) ∷ [], item_declare)
type-item (read_phrase type_int c (read_token is_the d) e d') = refl
type-item (read_phrase type_unsigned c (read_token is_the d) e d') = refl

pub no-index : (x : Identifier) (next : Option Token) → next ≢ Some (The LeftBracket)
    → chosen_rule (operands unary_expressions) (Some (Name x)) next ≡ Some (T a_name ∷ [], operand_name)
no-index x (Some (The LeftBracket)) h = absurd (h refl)
no-index x _ h = refl

pub assign-chosen : (x : Identifier) (after : Option Token) → after ≢ Some (The LeftParen) → after ≢ Some (The LeftBracket)
    → chosen_rule simple (Some (Name x)) after ≡ Some (T a_name ∷ T (the Assign) ∷ N value ∷ [], simple_assign)
assign-chosen x (Some (The LeftParen)) h k = absurd (h refl)
assign-chosen x (Some (The LeftBracket)) h k = absurd (k refl)
assign-chosen x _ h k = refl

pub plain-chosen : (next after : Option Token) → ((x : Identifier) → next ≡ Some (Name x) → after ≢ Some (The LeftParen))
    → chosen_rule value next after ≡ Some (N an_expression ∷ [], value_plain)
plain-chosen (Some (Name x)) (Some (The LeftParen)) h = absurd (h x refl refl)
plain-chosen _ _ h = refl

-- calls
pub call-stuck : {n : Nonterminal} {ts rest : List Token} {x : Identifier} {s : ParseStop} (r : Rule n (N a_call ∷ []))
    → chosen_rule n (Some (Name x)) (Some (The LeftParen)) ≡ Some (N a_call ∷ [], r) → StartsCall ts x rest
    → IsEndedStuck arguments RightParen rest s → IsStuck n ts s
call-stuck {rest = rest} {x = x} r c e (are_stuck {rest = end} h) = are_stuck (λ symbols.
    let a : length end.now < length (Name x ∷ The LeftParen ∷ rest) = omega (arith, stuck-within (h symbols)) in
    rw e (stuck_inside r c (λ z. a) (stuck_inside call_rule refl (λ z. absurd z) (stuck_past is_name (stuck_past is_the (h symbols))))))
call-stuck r c e without_memory = without_memory

-- a name alone is an expression
name-operands : (l : Level) (x : Identifier) {symbols : List Symbol} {m : PhraseTrees symbols} → Reads symbols [] [] m
    → Reads (N (operands l) ∷ symbols) (Name x ∷ []) [] (name x, m)
name-operands unary_expressions x q = read_phrase operand_name refl (read_token is_name read_nothing) refl q
name-operands (above l) x q = read_phrase operands_rule refl (name-operands l x (read_phrase operands_end refl read_nothing refl read_nothing)) refl q

name-expression : (x : Identifier) → Reads (N an_expression ∷ []) (Name x ∷ []) [] (name x, tt)
name-expression x = read_phrase expression_rule refl (name-operands ors x (read_phrase choice_none refl read_nothing refl read_nothing)) refl read_nothing

-- an expression that gets stuck doesn't get stuck at a name at its front
past-name : (ts p rest : List Token) (x : Identifier) → ts ≡ p ++ rest → StuckAt (N an_expression ∷ []) p (first rest) → first ts ≡ Some (Name x)
    → length rest < length ts
past-name ts [] rest x e s f = absurd (dead s (Name x ∷ []) (sym f ∙ ap first e) (name-expression x))
past-name ts (t ∷ p) rest x e s f = let a = ap length e in let b = length-append p rest in omega (arith, a, b)

plain-past : (ts rest : List Token) (next : Option Token) → first ts ≡ next → Stuck (N an_expression ∷ []) ts rest → Peeks value next → length rest < length ts
plain-past ts rest (Some (Name x)) e s k = let q = stuck_at s in past-name ts q.0 rest x q.1 q.2 e
plain-past ts rest _ e s k = absurd k

pub value-plain-stuck : {ts : List Token} {s : ParseStop} → StartsNoCall ts → IsStuck an_expression ts s → IsStuck value ts s
value-plain-stuck {ts = ts} h (are_stuck {rest = rest} k) = are_stuck (λ symbols.
    stuck_inside value_plain (plain-chosen (first ts) (second ts) h) (plain-past ts rest.now (first ts) refl (k [])) (k symbols))
value-plain-stuck h without_memory = without_memory
