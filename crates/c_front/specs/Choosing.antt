-- The rule that the next two tokens choose.
use Rattle.std.specs.Prelude.{◌≡◌, List, [], ◌∷◌, Option, Some, None}
use Rattle.c_tokens.specs.declared.token.JumpWord.TheVariants.{Break, Continue, Return}
use Rattle.c_tokens.specs.declared.token.Token.{Token}
use Rattle.c_tokens.specs.declared.token.Token.TheVariants.{Name, Constant, Jump, The}
use Rattle.c_tokens.specs.declared.token.Mark.{Mark}
use Rattle.c_tokens.specs.declared.token.Mark.TheVariants.{Int, Unsigned, Char, Void, If, Else, While, For, Semicolon, Comma, LeftBrace, RightBrace, LeftParen}
use Rattle.c_tokens.specs.declared.token.Mark.TheVariants.{RightParen, LeftBracket, Assign, Question, Plus, Minus, Star, Slash, Percent, Bang, Tilde, BarBar}
use Rattle.c_tokens.specs.declared.token.Mark.TheVariants.{AndAnd, Bar, Caret, Ampersand, EqualEqual, BangEqual, LessSign, GreaterSign, LessEqual, GreaterEqual}
use Rattle.c_tokens.specs.declared.token.Mark.TheVariants.{LessLess, GreaterGreater}
use Rattle.c_tree.specs.declared.tree.BinaryOp.{BinaryOp}
use Rattle.c_front.specs.Grammar.{the, Level, unary_expressions, above, Nonterminal, a_program, declarations, a_declaration, a_type, maybe_int, after_global}
use Rattle.c_front.specs.Grammar.{initial, function_rest, parameters, more_parameters, items, an_item, declared, a_statement, else_part, maybe_simple}
use Rattle.c_front.specs.Grammar.{maybe_expression, simple, value, a_call, arguments, more_arguments, an_expression, choice, operands, more_operands, Symbol, T}
use Rattle.c_front.specs.Grammar.{N, Operator, multiply, divide, remainder, add, subtract, shift_left, shift_right, less, greater, less_or_equal}
use Rattle.c_front.specs.Grammar.{greater_or_equal, equal, not_equal, bit_and, bit_xor, bit_or, logical_and, logical_or, negate, identity, complement, not}
use Rattle.c_front.specs.Grammar.{Rule, program_rule, declarations_end, declarations_more, declaration_typed, declaration_bytes, declaration_void, type_int}
use Rattle.c_front.specs.Grammar.{type_unsigned, int_none, int_some, global_plain, global_initial, global_array, global_function, initial_plain}
use Rattle.c_front.specs.Grammar.{initial_negative, function_rule, parameters_void, parameters_some, more_parameters_end, more_parameters_more, items_end}
use Rattle.c_front.specs.Grammar.{items_more, item_declare, item_statement, declared_none, declared_some, statement_empty, statement_block, statement_if}
use Rattle.c_front.specs.Grammar.{statement_while, statement_for, statement_break, statement_continue, statement_return, statement_simple, else_none, else_some}
use Rattle.c_front.specs.Grammar.{simple_none, simple_some, expression_none, expression_some, simple_assign, simple_assign_at, simple_call, value_plain}
use Rattle.c_front.specs.Grammar.{value_call, call_rule, arguments_none, arguments_some, more_arguments_end, more_arguments_more, expression_rule, choice_none}
use Rattle.c_front.specs.Grammar.{choice_some, operands_rule, operands_end, operands_more, operand_constant, operand_name, operand_index, operand_unary}
use Rattle.c_front.specs.Grammar.{operand_paren}

abbrev pub Choice : Nonterminal → Type 0
Choice n = (symbols : List Symbol) × Rule n symbols

-- the operator of a level that a token is
abbrev pub operator_at : (l : Level) (t : Mark) → Option ((o : BinaryOp) × Operator l o t)
operator_at unary_expressions Star = Some (_, multiply)
operator_at unary_expressions Slash = Some (_, divide)
operator_at unary_expressions Percent = Some (_, remainder)
operator_at (above unary_expressions) Plus = Some (_, add)
operator_at (above unary_expressions) Minus = Some (_, subtract)
operator_at (above (above unary_expressions)) LessLess = Some (_, shift_left)
operator_at (above (above unary_expressions)) GreaterGreater = Some (_, shift_right)
operator_at (above (above (above unary_expressions))) LessSign = Some (_, less)
operator_at (above (above (above unary_expressions))) GreaterSign = Some (_, greater)
operator_at (above (above (above unary_expressions))) LessEqual = Some (_, less_or_equal)
operator_at (above (above (above unary_expressions))) GreaterEqual = Some (_, greater_or_equal)
operator_at (above (above (above (above unary_expressions)))) EqualEqual = Some (_, equal)
operator_at (above (above (above (above unary_expressions)))) BangEqual = Some (_, not_equal)
operator_at (above (above (above (above (above unary_expressions))))) Ampersand = Some (_, bit_and)
operator_at (above (above (above (above (above (above unary_expressions)))))) Caret = Some (_, bit_xor)
operator_at (above (above (above (above (above (above (above unary_expressions))))))) Bar = Some (_, bit_or)
operator_at (above (above (above (above (above (above (above (above unary_expressions)))))))) AndAnd = Some (_, logical_and)
operator_at (above (above (above (above (above (above (above (above (above unary_expressions))))))))) BarBar = Some (_, logical_or)
operator_at _ _ = None

abbrev pub more_choice : (l : Level) (t : Mark) → Option ((o : BinaryOp) × Operator l o t) → Choice (more_operands l)
more_choice l t None = ([], operands_end)
more_choice l t (Some r) = (T (the t) ∷ N (operands l) ∷ N (more_operands l) ∷ [], operands_more r.1)

-- the rule that one token chooses, for the phrases where one is enough
abbrev pub one_choice : (n : Nonterminal) → Option Token → Option (Choice n)
one_choice a_program _ = Some (_, program_rule)
one_choice declarations None = Some (_, declarations_end)
one_choice declarations (Some _) = Some (_, declarations_more)
one_choice a_type (Some (The Int)) = Some (_, type_int)
one_choice a_type (Some (The Unsigned)) = Some (_, type_unsigned)
one_choice maybe_int (Some (The Int)) = Some (_, int_some)
one_choice maybe_int _ = Some (_, int_none)
one_choice after_global (Some (The Semicolon)) = Some (_, global_plain)
one_choice after_global (Some (The Assign)) = Some (_, global_initial)
one_choice after_global (Some (The LeftBracket)) = Some (_, global_array)
one_choice after_global _ = Some (_, global_function)
one_choice initial (Some (The Minus)) = Some (_, initial_negative)
one_choice initial _ = Some (_, initial_plain)
one_choice function_rest _ = Some (_, function_rule)
one_choice parameters (Some (The Void)) = Some (_, parameters_void)
one_choice parameters _ = Some (_, parameters_some)
one_choice more_parameters (Some (The Comma)) = Some (_, more_parameters_more)
one_choice more_parameters _ = Some (_, more_parameters_end)
one_choice items None = Some (_, items_end)
one_choice items (Some (The RightBrace)) = Some (_, items_end)
one_choice items (Some _) = Some (_, items_more)
one_choice an_item (Some (The Int)) = Some (_, item_declare)
one_choice an_item (Some (The Unsigned)) = Some (_, item_declare)
one_choice an_item _ = Some (_, item_statement)
one_choice declared (Some (The Assign)) = Some (_, declared_some)
one_choice declared _ = Some (_, declared_none)
one_choice a_statement (Some (The Semicolon)) = Some (_, statement_empty)
one_choice a_statement (Some (The LeftBrace)) = Some (_, statement_block)
one_choice a_statement (Some (The If)) = Some (_, statement_if)
one_choice a_statement (Some (The While)) = Some (_, statement_while)
one_choice a_statement (Some (The For)) = Some (_, statement_for)
one_choice a_statement (Some (Jump Break at)) = Some (_, statement_break)
one_choice a_statement (Some (Jump Continue at)) = Some (_, statement_continue)
one_choice a_statement (Some (Jump Return at)) = Some (_, statement_return)
one_choice a_statement (Some (Name x)) = Some (_, statement_simple)
one_choice maybe_simple (Some (Name x)) = Some (_, simple_some)
one_choice maybe_simple _ = Some (_, simple_none)
one_choice maybe_expression (Some (The Semicolon)) = Some (_, expression_none)
one_choice maybe_expression _ = Some (_, expression_some)
one_choice else_part (Some (The Else)) = Some (_, else_some)
one_choice else_part _ = Some (_, else_none)
one_choice a_call _ = Some (_, call_rule)
one_choice arguments (Some (The RightParen)) = Some (_, arguments_none)
one_choice arguments _ = Some (_, arguments_some)
one_choice more_arguments (Some (The Comma)) = Some (_, more_arguments_more)
one_choice more_arguments _ = Some (_, more_arguments_end)
one_choice an_expression _ = Some (_, expression_rule)
one_choice choice (Some (The Question)) = Some (_, choice_some)
one_choice choice _ = Some (_, choice_none)
one_choice (operands (above l)) _ = Some (_, operands_rule)
one_choice (more_operands l) None = Some (_, operands_end)
one_choice (more_operands l) (Some (The t)) = Some (more_choice l t (operator_at l t))
one_choice (more_operands l) (Some _) = Some (_, operands_end)
one_choice _ _ = None

abbrev pub declaration_choice : Option Token → Option Token → Option (Choice a_declaration)
declaration_choice (Some (The Void)) _ = Some (_, declaration_void)
declaration_choice (Some (The Unsigned)) (Some (The Char)) = Some (_, declaration_bytes)
declaration_choice _ _ = Some (_, declaration_typed)

abbrev pub simple_choice : Option Token → Option Token → Option (Choice simple)
simple_choice (Some (Name x)) (Some (The LeftParen)) = Some (_, simple_call)
simple_choice (Some (Name x)) (Some (The LeftBracket)) = Some (_, simple_assign_at)
simple_choice (Some (Name x)) _ = Some (_, simple_assign)
simple_choice _ _ = None

abbrev pub value_choice : Option Token → Option Token → Option (Choice value)
value_choice (Some (Name x)) (Some (The LeftParen)) = Some (_, value_call)
value_choice _ _ = Some (_, value_plain)

abbrev pub unit_choice : Option Token → Option Token → Option (Choice (operands unary_expressions))
unit_choice (Some (Constant k)) _ = Some (_, operand_constant)
unit_choice (Some (Name x)) (Some (The LeftBracket)) = Some (_, operand_index)
unit_choice (Some (Name x)) _ = Some (_, operand_name)
unit_choice (Some (The Minus)) _ = Some (_, operand_unary negate)
unit_choice (Some (The Plus)) _ = Some (_, operand_unary identity)
unit_choice (Some (The Tilde)) _ = Some (_, operand_unary complement)
unit_choice (Some (The Bang)) _ = Some (_, operand_unary not)
unit_choice (Some (The LeftParen)) _ = Some (_, operand_paren)
unit_choice _ _ = None

abbrev pub chosen_rule : (n : Nonterminal) → Option Token → Option Token → Option (Choice n)
chosen_rule a_declaration next after = declaration_choice next after
chosen_rule simple next after = simple_choice next after
chosen_rule value next after = value_choice next after
chosen_rule (operands unary_expressions) next after = unit_choice next after
chosen_rule n next after = one_choice n next

-- the second token has a say
abbrev pub Peeks : Nonterminal → Option Token → Type 0
Peeks a_declaration (Some (The Unsigned)) = Unit {0}
Peeks simple (Some (Name x)) = Unit {0}
Peeks value (Some (Name x)) = Unit {0}
Peeks (operands unary_expressions) (Some (Name x)) = Unit {0}
Peeks _ _ = ⊥

-- the token ends the operands of a level
abbrev pub EndsOperands : Level → Option Token → Type 0
EndsOperands l next = chosen_rule (more_operands l) next None ≡ Some ([], operands_end)

-- the token ends an expression after its condition
abbrev pub EndsChoice : Option Token → Type 0
EndsChoice next = chosen_rule choice next None ≡ Some ([], choice_none)

-- the token ends a list of items
abbrev pub EndsItems : Option Token → Type 0
EndsItems next = chosen_rule items next None ≡ Some ([], items_end)

-- the token begins one more item
abbrev pub StartsItem : Option Token → Type 0
StartsItem next = chosen_rule items next None ≡ Some (N an_item ∷ N items ∷ [], items_more)

-- the token ends a list of arguments after its first
abbrev pub EndsArguments : Option Token → Type 0
EndsArguments next = chosen_rule more_arguments next None ≡ Some ([], more_arguments_end)

-- the token ends a list of parameters after its first
abbrev pub EndsParameters : Option Token → Type 0
EndsParameters next = chosen_rule more_parameters next None ≡ Some ([], more_parameters_end)
