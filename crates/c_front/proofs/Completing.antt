-- What was read before a derivation got stuck is the beginning of another.
use Rattle.std.proofs.Common.{List, [], ◌∷◌, ◌++◌, Option, None, refl}
use Rattle.c_tokens.specs.declared.token.IntegerType.TheVariants.{SignedInt}
use Rattle.c_tokens.specs.declared.token.Token.{Token}
use Rattle.c_tokens.specs.declared.token.Token.TheVariants.{Name, Constant, Jump, The}
use Rattle.c_front.specs.Grammar.{Sort, a_name, a_constant, a_jump, the, Level, unary_expressions, above, ors, Nonterminal, a_program, declarations}
use Rattle.c_front.specs.Grammar.{a_declaration, a_type, maybe_int, after_global, initial, function_rest, parameters, more_parameters, items, an_item}
use Rattle.c_front.specs.Grammar.{declared, a_statement, else_part, maybe_simple, maybe_expression, simple, value, a_call, arguments, more_arguments}
use Rattle.c_front.specs.Grammar.{an_expression, choice, operands, more_operands, Symbol, T, N, PhraseTrees, Rule, program_rule, declarations_end}
use Rattle.c_front.specs.Grammar.{declaration_bytes, type_int, int_none, global_plain, initial_plain, function_rule, parameters_void}
use Rattle.c_front.specs.Grammar.{more_parameters_end, items_end, item_statement, declared_none, statement_empty, else_some, simple_none}
use Rattle.c_front.specs.Grammar.{expression_none, simple_call, value_call, call_rule, arguments_none, more_arguments_end, expression_rule, choice_none}
use Rattle.c_front.specs.Grammar.{operands_rule, operands_end, operand_constant, first, MayPrecede, is_name, is_constant, is_jump, is_the, Derives}
use Rattle.c_front.specs.Grammar.{nothing, token, phrase}
use Rattle.c_front.proofs.Reading.{StuckAt, at_past, at_inside, precedes}

-- tokens with which those so far are derived from the symbols
pub data Completes (symbols : List Symbol) (p : List Token) : Type 0 where
  completes : (w : List Token) {m : PhraseTrees symbols} → Derives symbols (p ++ w) [] m → Completes symbols p

parted : (symbols : List Symbol) {more : List Symbol} {ts rest : List Token} {z : PhraseTrees (symbols ++ more)} → Derives (symbols ++ more) ts rest z →
    (middle : List Token) × (m : PhraseTrees symbols) × (w : PhraseTrees more) × Derives symbols ts middle m × Derives more middle rest w
parted [] {ts = ts} {z = z} d = (ts, tt, z, nothing, d)
parted (T s ∷ symbols) (token {v = v} i d) = let r = parted symbols d in (r.0, (v, r.1), r.2, token i r.3, r.4)
parted (N n ∷ symbols) (phrase {w = w} r d f e d') = let x = parted symbols d' in (x.0, (w, x.1), x.2, phrase r d f e x.3, x.4)

-- a phrase by a rule that may stand before any token
by : {n : Nonterminal} {inner symbols : List Symbol} (r : Rule n inner) → ((next : Option Token) → MayPrecede r next) → Completes (inner ++ symbols) []
    → Completes (N n ∷ symbols) []
by {inner = inner} r f (completes w d) = let x = parted inner d in completes w (phrase r x.3 (f (first x.0)) refl x.4)

any : (s : Sort) {symbols : List Symbol} → Completes symbols [] → Completes (T s ∷ symbols) []
any a_name (completes w d) = completes (Name (record { at = 0; length = 1 }) ∷ w) (token is_name d)
any a_constant (completes w d) = completes (Constant (record { value = 0; integer_type = SignedInt }) ∷ w) (token is_constant d)
any (a_jump u) (completes w d) = completes (Jump u 0 ∷ w) (token is_jump d)
any (the t) (completes w d) = completes (The t ∷ w) (token is_the d)

some-operands : (l : Level) {symbols : List Symbol} → Completes symbols [] → Completes (N (operands l) ∷ symbols) []
some-operands unary_expressions c = by operand_constant (λ _. tt) (any _ c)
some-operands (above l) c = by operands_rule (λ _. tt) (some-operands l (by operands_end (λ _. tt) c))

some-call : {symbols : List Symbol} → Completes symbols [] → Completes (N a_call ∷ symbols) []
some-call c = by call_rule (λ _. tt) (any _ (any _ (by arguments_none (λ _. tt) (any _ c))))

some : (n : Nonterminal) {symbols : List Symbol} → Completes symbols [] → Completes (N n ∷ symbols) []
some a_program c = by program_rule (λ _. tt) (by declarations_end (λ _. tt) c)
some declarations c = by declarations_end (λ _. tt) c
some a_declaration c = by declaration_bytes (λ _. tt) (any _ (any _ (any _ (any _ (any _ (any _ (any _ c)))))))
some a_type c = by type_int (λ _. tt) (any _ c)
some maybe_int c = by int_none (λ _. tt) c
some after_global c = by global_plain (λ _. tt) (any _ c)
some initial c = by initial_plain (λ _. tt) (any _ c)
some function_rest c = by function_rule (λ _. tt)
    (any _ (by parameters_void (λ _. tt) (any _ (any _ (any _ (by items_end (λ _. tt) (any _ c)))))))
some parameters c = by parameters_void (λ _. tt) (any _ c)
some more_parameters c = by more_parameters_end (λ _. tt) c
some items c = by items_end (λ _. tt) c
some an_item c = by item_statement (λ _. tt) (by statement_empty (λ _. tt) (any _ c))
some declared c = by declared_none (λ _. tt) c
some a_statement c = by statement_empty (λ _. tt) (any _ c)
some else_part c = by else_some (λ _. tt) (any _ (by statement_empty (λ _. tt) (any _ c)))
some maybe_simple c = by simple_none (λ _. tt) c
some maybe_expression c = by expression_none (λ _. tt) c
some simple c = by simple_call (λ _. tt) (some-call c)
some value c = by value_call (λ _. tt) (some-call c)
some a_call c = some-call c
some arguments c = by arguments_none (λ _. tt) c
some more_arguments c = by more_arguments_end (λ _. tt) c
some an_expression c = by expression_rule (λ _. tt) (some-operands ors (by choice_none (λ _. tt) c))
some choice c = by choice_none (λ _. tt) c
some (operands l) c = some-operands l c
some (more_operands l) c = by operands_end (λ _. tt) c

completion : (symbols : List Symbol) → Completes symbols []
completion [] = completes [] nothing
completion (T s ∷ symbols) = any s (completion symbols)
completion (N n ∷ symbols) = some n (completion symbols)

-- whatever was read before a derivation got stuck begins another
pub complete : {symbols : List Symbol} {p : List Token} {next : Option Token} → StuckAt symbols p next → Completes symbols p
complete {symbols = symbols} {p = []} s = completion symbols
complete {p = t ∷ p} (at_past i s) = elim (complete s) [ completes w d ↦ completes w (token i d) ]
complete {p = t ∷ p} (at_inside {inner = inner} r chosen s) = elim (complete s) [
  | completes w d ↦ (let x = parted inner d in completes w (phrase r x.3 (precedes r _ (chosen None) x.3) refl x.4))
]
