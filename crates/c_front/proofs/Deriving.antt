-- A derivation is the one in which the next token chooses each rule.
use Rattle.std.proofs.Common.{rules, ◌≤◌, suc, arith, lit≤, ◌≡◌, List, [], ◌∷◌, Option, Some, refl, ap}
use Rattle.c_tokens.specs.declared.token.Identifier.{Identifier}
use Rattle.c_tokens.specs.declared.token.Token.{Token}
use Rattle.c_tokens.specs.declared.token.Token.TheVariants.{Name, The}
use Rattle.c_tokens.specs.declared.token.Mark.{Mark}
use Rattle.c_front.specs.Grammar.{a_name, the, maybe_int, a_program, Level, ors, Nonterminal, declarations, a_type, parameters, more_parameters, items}
use Rattle.c_front.specs.Grammar.{an_item, declared, a_statement, maybe_simple, maybe_expression, simple, value, arguments, more_arguments}
use Rattle.c_front.specs.Grammar.{an_expression, choice, operands, more_operands, Symbol, T, N, PhraseTrees, negate, Rule, program_rule}
use Rattle.c_front.specs.Grammar.{declarations_end, declaration_typed, declaration_void, type_int, type_unsigned, int_none, int_some, function_rule}
use Rattle.c_front.specs.Grammar.{more_parameters_end, declaration_bytes, items_end, items_more, item_declare, item_statement, declared_none}
use Rattle.c_front.specs.Grammar.{statement_simple, else_none, simple_none, simple_some, expression_none, expression_some, simple_assign}
use Rattle.c_front.specs.Grammar.{simple_assign_at, simple_call, value_plain, call_rule, arguments_none, arguments_some, more_arguments_end}
use Rattle.c_front.specs.Grammar.{more_arguments_more, expression_rule, choice_none, choice_some, operands_rule, operands_end, operands_more}
use Rattle.c_front.specs.Grammar.{operand_constant, operand_name, operand_index, operand_unary, operand_paren, first, second, MayPrecede, else_part}
use Rattle.c_front.specs.Grammar.{is_name, is_constant, is_jump, is_the, Derives, nothing, token, phrase, identity, complement, not}
use Rattle.c_front.specs.Reading.{Reads, read_nothing, read_token, read_phrase}
use Rattle.c_front.specs.Choosing.{one_choice, chosen_rule}
use Rattle.c_front.proofs.Choices.{otherwise, no-index, plain-chosen}
use Rattle.c_front.proofs.Ranks.{rank_of, rank, operator-rank, ends-operands, chosen-operator}

abbrev Ends : (n : Nonterminal) → Option Token → Rule n [] → Type 0
Ends n next r = one_choice n next ≡ Some ([], r)

-- what follows a phrase doesn't go on with it
abbrev pub IsClosed : Nonterminal → Option Token → Type 0
IsClosed a_program next = Ends declarations next declarations_end
IsClosed declarations next = Ends declarations next declarations_end
IsClosed a_type next = Ends maybe_int next int_none
IsClosed maybe_int next = Ends maybe_int next int_none
IsClosed parameters next = Ends more_parameters next more_parameters_end
IsClosed more_parameters next = Ends more_parameters next more_parameters_end
IsClosed items next = Ends items next items_end
IsClosed declared next = Ends declared next declared_none × (12 ≤ rank_of next)
IsClosed maybe_simple next = Ends maybe_simple next simple_none × (12 ≤ rank_of next)
IsClosed maybe_expression next = Ends maybe_expression next expression_none × (12 ≤ rank_of next)
IsClosed simple next = 12 ≤ rank_of next
IsClosed value next = 12 ≤ rank_of next
IsClosed arguments next = Ends arguments next arguments_none × Ends more_arguments next more_arguments_end × (12 ≤ rank_of next)
IsClosed more_arguments next = Ends more_arguments next more_arguments_end × (12 ≤ rank_of next)
IsClosed an_expression next = 12 ≤ rank_of next
IsClosed choice next = 12 ≤ rank_of next
IsClosed (operands l) next = rank l ≤ rank_of next
IsClosed (more_operands l) next = suc (rank l) ≤ rank_of next
IsClosed _ next = Unit {0}

-- why a phrase is closed by what is derived after it, up to where an outer phrase is closed
pub data ClosedBy : Nonterminal → List Symbol → Nonterminal → Type 0 where
  by_next : {n outer : Nonterminal} → ((x : Option Token) → IsClosed outer x → IsClosed n x) → ClosedBy n [] outer
  by_mark : {n outer : Nonterminal} {t : Mark} {symbols : List Symbol} → IsClosed n (Some (The t)) → ClosedBy n (T (the t) ∷ symbols) outer
  by_name : {n outer : Nonterminal} {symbols : List Symbol} → ((x : Identifier) → IsClosed n (Some (Name x))) → ClosedBy n (T a_name ∷ symbols) outer
  by_anything : {n outer : Nonterminal} {symbols : List Symbol} → ((x : Option Token) → IsClosed n x) → ClosedBy n symbols outer
  by_choice : ClosedBy (operands ors) (N choice ∷ []) an_expression
  by_operands : {l : Level} {outer : Nonterminal} → ((x : Option Token) → IsClosed outer x → IsClosed (more_operands l) x)
      → ClosedBy (operands l) (N (more_operands l) ∷ []) outer
  by_arguments : {outer : Nonterminal} → ((x : Option Token) → IsClosed outer x → IsClosed more_arguments x)
      → ClosedBy an_expression (N more_arguments ∷ []) outer

closes : {n outer : Nonterminal} {symbols : List Symbol} {ts rest : List Token} {m : PhraseTrees symbols} → ClosedBy n symbols outer
    → Derives symbols ts rest m → IsClosed outer (first rest) → IsClosed n (first ts)
closes (by_next f) (nothing {ts = ts}) h = f (first ts) h
closes (by_mark h) (token is_the d) _ = h
closes (by_name h) (token (is_name {x = x}) d) _ = h x
closes {ts = ts} (by_anything h) d _ = h (first ts)
closes by_choice (phrase choice_none nothing f q nothing) h = omega (arith, h)
closes by_choice (phrase choice_some (token is_the i) f q d) h = lit≤ tt
closes (by_operands f) (phrase operands_end nothing _ q (nothing {ts = ts})) h = let a = f (first ts) h in omega (arith, a)
closes (by_operands f) (phrase (operands_more r) (token is_the i) _ q d) h = let a = operator-rank r in omega (arith, a)
closes (by_arguments f) (phrase more_arguments_end nothing _ q (nothing {ts = ts})) h = (f (first ts) h).1
closes (by_arguments f) (phrase more_arguments_more (token is_the i) _ q d) h = lit≤ tt

-- each phrase is closed by whatever is derived after it
abbrev pub AreClosed : List Symbol → Nonterminal → Type 0
AreClosed [] outer = Unit {0}
AreClosed (T s ∷ symbols) outer = AreClosed symbols outer
AreClosed (N n ∷ symbols) outer = ClosedBy n symbols outer × AreClosed symbols outer

ruleset closing = (by_next, by_mark, by_name, by_choice, by_operands, by_arguments, by_anything)

parts-closed : {n : Nonterminal} {inner : List Symbol} → Rule n inner → AreClosed inner n
parts-closed program_rule = (by_next (λ x h. h), tt)
parts-closed _ = search (rules, closing)

-- operands don't begin with a closing parenthesis, and no call begins with them
pub record OperandsStart (ts : List Token) : Type 0 where
  pub some : one_choice arguments (first ts) ≡ Some (N an_expression ∷ N more_arguments ∷ [], arguments_some)
  pub given : one_choice maybe_expression (first ts) ≡ Some (N an_expression ∷ [], expression_some)
  pub plain : chosen_rule value (first ts) (second ts) ≡ Some (N an_expression ∷ [], value_plain)

operands-start : {l : Level} {ts rest : List Token} {m : PhraseTrees (N (operands l) ∷ [])} → Derives (N (operands l) ∷ []) ts rest m
    → IsClosed (operands l) (first rest) → OperandsStart ts
operands-start (phrase (operands_rule {l = l}) (phrase r d f q more) f' q' nothing) h =
    operands-start (phrase r d f q nothing) (closes {outer = more_operands l} (by_operands (λ x h. h)) more h)
operands-start (phrase operand_name (token (is_name {x = x}) nothing) f q (nothing {ts = ts})) h =
    record { some = refl; given = refl; plain = plain-chosen (Some (Name x)) (first ts) (λ y k e. let z = ap rank_of e in omega (arith, z, h)) }
operands-start (phrase operand_index (token is_name (token is_the d)) f q nothing) h = record { some = refl; given = refl; plain = refl }
operands-start (phrase operand_constant (token is_constant nothing) f q nothing) h = record { some = refl; given = refl; plain = refl }
operands-start (phrase (operand_unary negate) (token is_the d) f q nothing) h = record { some = refl; given = refl; plain = refl }
operands-start (phrase (operand_unary identity) (token is_the d) f q nothing) h = record { some = refl; given = refl; plain = refl }
operands-start (phrase (operand_unary complement) (token is_the d) f q nothing) h = record { some = refl; given = refl; plain = refl }
operands-start (phrase (operand_unary not) (token is_the d) f q nothing) h = record { some = refl; given = refl; plain = refl }
operands-start (phrase operand_paren (token is_the d) f q nothing) h = record { some = refl; given = refl; plain = refl }

expression-start : {ts rest : List Token} {m : PhraseTrees (N an_expression ∷ [])} → Derives (N an_expression ∷ []) ts rest m
    → IsClosed an_expression (first rest) → OperandsStart ts
expression-start (phrase expression_rule (phrase r d f q more) f' q' nothing) h = operands-start (phrase r d f q nothing) (closes by_choice more h)

simple-name : {symbols : List Symbol} {ts rest : List Token} {m : PhraseTrees (N simple ∷ symbols)} → Derives (N simple ∷ symbols) ts rest m
    → (x : Identifier) × (first ts ≡ Some (Name x))
simple-name (phrase simple_assign (token (is_name {x = x}) d) f q d') = (x, refl)
simple-name (phrase simple_assign_at (token (is_name {x = x}) d) f q d') = (x, refl)
simple-name (phrase simple_call (phrase call_rule (token (is_name {x = x}) d) _ _ _) f q d') = (x, refl)

statement-starts : {symbols : List Symbol} {ts rest : List Token} {m : PhraseTrees (N a_statement ∷ symbols)} → Derives (N a_statement ∷ symbols) ts rest m →
    (one_choice items (first ts) ≡ Some (N an_item ∷ N items ∷ [], items_more)) × (one_choice an_item (first ts) ≡ Some (N a_statement ∷ [], item_statement))
statement-starts (phrase statement_simple d f q d') = let x = simple-name d in (ap (one_choice items) x.1, ap (one_choice an_item) x.1)
statement-starts (phrase _ (token is_the d) f q d') = (refl, refl)
statement-starts (phrase _ (token is_jump d) f q d') = (refl, refl)

-- the rule is the one that the next token chooses
chooses : {n : Nonterminal} {inner : List Symbol} {ts rest : List Token} {m : PhraseTrees inner} (r : Rule n inner) → Derives inner ts rest m →
    MayPrecede r (first rest) → IsClosed n (first rest) → chosen_rule n (first ts) (second ts) ≡ Some (inner, r)
chooses declarations_end nothing f h = h
chooses declaration_bytes (token is_the (token is_the d)) f h = refl
chooses int_none nothing f h = h
chooses more_parameters_end nothing f h = h
chooses items_end nothing f h = h
chooses items_more (phrase item_statement d _ _ _) f h = (statement-starts d).0
chooses item_statement d f h = (statement-starts d).1
chooses declared_none nothing f h = h.0
chooses statement_simple d f h = ap (one_choice a_statement) (simple-name d).1
chooses else_none nothing f h = otherwise else_part _ f
chooses simple_none nothing f h = h.0
chooses simple_some d f h = ap (one_choice maybe_simple) (simple-name d).1
chooses expression_none nothing f h = h.0
chooses expression_some d f h = (expression-start d h.1).given
chooses value_plain d f h = (expression-start d h).plain
chooses arguments_none nothing f h = h.0
chooses arguments_some (phrase r d f q more) _ h =
    (expression-start (phrase r d f q nothing) (closes {outer = more_arguments} (by_arguments (λ x h. h)) more (h.1, h.2))).some
chooses more_arguments_end nothing f h = h.0
chooses choice_none (nothing {ts = ts}) f h = otherwise choice (first ts) (λ e. let z = ap rank_of e in omega (arith, z, h))
chooses (operands_end {l = l}) (nothing {ts = ts}) f h = ends-operands l (first ts) (omega (arith, h))
chooses (operands_more r) (token is_the d) f h = chosen-operator r
chooses operand_name (token (is_name {x = x}) (nothing {ts = ts})) f h =
    no-index x (first ts) (λ e. let z = ap rank_of e in omega (arith, z, h))
chooses (operand_unary negate) (token is_the d) f h = refl
chooses _ (token is_the d) f h = refl
chooses _ (token is_jump d) f h = refl
chooses _ (token is_constant d) f h = refl
chooses _ (token is_name (token is_the d)) f h = refl
chooses _ (phrase declaration_bytes (token is_the d) _ _ _) f h = refl
chooses _ (phrase declaration_void (token is_the d) _ _ _) f h = refl
chooses _ (phrase declaration_typed (phrase type_int (token is_the d) _ _ _) _ _ _) f h = refl
chooses _ (phrase declaration_typed (phrase type_unsigned (token is_the d) _ _ _) _ _ _) f h = refl
chooses _ (phrase item_declare (phrase type_int (token is_the d) _ _ _) _ _ _) f h = refl
chooses _ (phrase item_declare (phrase type_unsigned (token is_the d) _ _ _) _ _ _) f h = refl
chooses _ (phrase type_int (token is_the d) _ _ _) f h = refl
chooses declaration_typed (phrase type_unsigned (token is_the (phrase int_none nothing _ _ nothing)) _ _ (token is_name d)) f h = refl
chooses declaration_typed (phrase type_unsigned (token is_the (phrase int_some (token is_the i) _ _ _)) _ _ d) f h = refl
chooses _ (phrase type_unsigned (token is_the d) _ _ _) f h = refl
chooses _ (phrase function_rule (token is_the d) _ _ _) f h = refl
chooses _ (phrase call_rule (token is_name (token is_the d)) _ _ _) f h = refl
chooses _ d f h = refl

pub determined : {symbols : List Symbol} {ts rest : List Token} {m : PhraseTrees symbols} (outer : Nonterminal) → Derives symbols ts rest m
    → AreClosed symbols outer → IsClosed outer (first rest) → Reads symbols ts rest m
determined outer nothing c h = read_nothing
determined outer (token i d) c h = read_token i (determined outer d c h)
determined outer (phrase {n = n} r d f e d') c h =
    let k = closes c.0 d' h in
    read_phrase r (chooses r d f k) (determined n d (parts-closed r) k) e (determined outer d' c.1 h)
