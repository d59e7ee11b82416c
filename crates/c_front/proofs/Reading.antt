-- Derivations in which each rule is the one that the next token chooses, and where they get stuck.
use Rattle.std.proofs.Common.{◌<◌, ◌≤◌, arith, length, ◌≡◌, ◌≢◌, List, [], ◌∷◌, ◌++◌, Option, Some, None, refl, sym, ap, subst, ◌∙◌}
use Rattle.c_tokens.specs.declared.token.Token.{Token}
use Rattle.c_tokens.specs.declared.token.Token.TheVariants.{Name, Jump, The, Constant}
use Rattle.c_tokens.specs.declared.token.Mark.TheVariants.{Unsigned, Else, Minus}
use Rattle.c_front.specs.Grammar.{parameters, parameters_some, an_item, item_declare, item_statement, statement_simple, Sort, a_name, a_constant, a_jump, the, unary_expressions, Nonterminal, a_declaration}
use Rattle.c_front.specs.Grammar.{a_type, a_statement, else_part, simple, value, a_call, an_expression, operands, Symbol, T, N, SortTree, PhraseTrees}
use Rattle.c_front.specs.Grammar.{Rule, declaration_typed, else_none, simple_call, value_plain, value_call, expression_rule, operands_rule, tree_of}
use Rattle.c_front.specs.Grammar.{first, second, MayPrecede, IsToken, is_name, Derives, nothing, token, phrase}
use Rattle.c_front.specs.Reading.{Reads, read_nothing, read_token, read_phrase, Stuck, stuck_extra, stuck_token, stuck_past, stuck_phrase, stuck_inside}
use Rattle.c_front.specs.Choosing.{Choice, one_choice, chosen_rule, Peeks}

some-same : {A : Type 0} {x y : A} → Some x ≡ Some y → x ≡ y
some-same e = cc

-- what is chosen twice has the same symbols
pub same-symbols : {n : Nonterminal} {x y : Choice n} → Some x ≡ Some y → x.0 ≡ y.0
same-symbols {n = n} e = ap (λ (z : Choice n). z.0) (some-same e)

no-else : (next : Option Token) → one_choice else_part next ≡ Some ([], else_none) → next ≢ Some (The Else)
no-else next c e = let bad : T (the Else) ∷ N a_statement ∷ [] ≡ [] = same-symbols (sym (ap (one_choice else_part) e) ∙ c) in cc

-- a rule that the next token chooses may stand there
pub precedes : {n : Nonterminal} {inner : List Symbol} {ts rest : List Token} {m : PhraseTrees inner} (r : Rule n inner) (after : Option Token)
    → chosen_rule n (first ts) after ≡ Some (inner, r) → Derives inner ts rest m → MayPrecede r (first rest)
precedes else_none _ c nothing = no-else _ c
precedes _ _ c d = tt

pub derived : {symbols : List Symbol} {ts rest : List Token} {m : PhraseTrees symbols} → Reads symbols ts rest m → Derives symbols ts rest m
derived read_nothing = nothing
derived (read_token i d) = token i (derived d)
derived (read_phrase r c d e d') = let q = derived d in phrase r q (precedes r _ c q) e (derived d')

-- what is left is no longer
pub reads-within : {symbols : List Symbol} {ts rest : List Token} {m : PhraseTrees symbols} → Reads symbols ts rest m → length rest ≤ length ts
reads-within read_nothing = omega arith
reads-within (read_token i d) = let a = reads-within d in omega (arith, a)
reads-within (read_phrase r c d e d') = let a = reads-within d in let b = reads-within d' in omega (arith, a, b)

pub stuck-within : {symbols : List Symbol} {ts rest : List Token} → Stuck symbols ts rest → length rest ≤ length ts
stuck-within (stuck_past i s) = let a = stuck-within s in omega (arith, a)
stuck-within (stuck_inside {inner = inner} r c k s) = stuck-within s
stuck-within _ = omega arith

-- some phrases that have a token at least
abbrev Takes : Nonterminal → Type 0
Takes a_declaration = Unit {0}
Takes a_type = Unit {0}
Takes parameters = Unit {0}
Takes an_item = Unit {0}
Takes a_statement = Unit {0}
Takes simple = Unit {0}
Takes a_call = Unit {0}
Takes an_expression = Unit {0}
Takes (operands l) = Unit {0}
Takes _ = ⊥

pub takes : {n : Nonterminal} {symbols : List Symbol} {ts rest : List Token} {m : PhraseTrees (N n ∷ symbols)} → Takes n → Reads (N n ∷ symbols) ts rest m
    → length rest < length ts
takes h (read_phrase declaration_typed c d e d') = let a = takes tt d in let b = reads-within d' in omega (arith, a, b)
takes h (read_phrase parameters_some c d e d') = let a = takes tt d in let b = reads-within d' in omega (arith, a, b)
takes h (read_phrase item_declare c d e d') = let a = takes tt d in let b = reads-within d' in omega (arith, a, b)
takes h (read_phrase item_statement c d e d') = let a = takes tt d in let b = reads-within d' in omega (arith, a, b)
takes h (read_phrase statement_simple c d e d') = let a = takes tt d in let b = reads-within d' in omega (arith, a, b)
takes h (read_phrase simple_call c d e d') = let a = takes tt d in let b = reads-within d' in omega (arith, a, b)
takes h (read_phrase expression_rule c d e d') = let a = takes tt d in let b = reads-within d' in omega (arith, a, b)
takes h (read_phrase operands_rule c d e d') = let a = takes tt d in let b = reads-within d' in omega (arith, a, b)
takes h (read_phrase _ c (read_token i d) e d') = let a = reads-within d in let b = reads-within d' in omega (arith, a, b)
takes h (read_phrase _ c d e d') = absurd h

pub takes-token : {s : Sort} {symbols : List Symbol} {ts rest : List Token} {m : PhraseTrees (T s ∷ symbols)} → Reads (T s ∷ symbols) ts rest m
    → length rest < length ts
takes-token (read_token i d) = let a = reads-within d in omega (arith, a)

-- a phrase for which the second token has a say has a token at least
pub peeked : {n : Nonterminal} {inner : List Symbol} {ts middle : List Token} {m : PhraseTrees inner} (r : Rule n inner) → Peeks n (first ts)
    → Reads inner ts middle m → length middle < length ts
peeked _ h (read_token i d) = let a = reads-within d in omega (arith, a)
peeked declaration_typed h d = takes tt d
peeked simple_call h d = takes tt d
peeked value_plain h d = takes tt d
peeked value_call h d = takes tt d
peeked _ h d = absurd h

-- past what was read
pub stuck_after : {symbols more : List Symbol} {ts middle rest : List Token} {m : PhraseTrees symbols} →
    Reads symbols ts middle m → Stuck more middle rest → Stuck (symbols ++ more) ts rest
stuck_after read_nothing s = s
stuck_after (read_token i d) s = stuck_past i (stuck_after d s)
stuck_after {ts = ts} {rest = rest} (read_phrase {middle = middle} r c d e d') s =
    let a : length rest ≤ length middle = stuck-within (stuck_after d' s) in
    stuck_inside r c (λ h. let b : length middle < length ts = peeked r h d in omega arith) (stuck_after d (stuck_after d' s))

abbrev token-of : (s : Sort) → SortTree s → Token
token-of a_name x = Name x
token-of a_constant k = Constant k
token-of (a_jump w) at = Jump w at
token-of (the t) _ = The t

pub token-is : {s : Sort} {t : Token} {v : SortTree s} → IsToken s t v → t ≡ token-of s v
token-is is_name = refl
token-is _ = refl

same_token : (s : Sort) {t : Token} {v w : SortTree s} → IsToken s t v → IsToken s t w → v ≡ w
same_token (the u) i j = refl
same_token _ i j = let a = token-is i in let b = token-is j in cc

-- what was read of a phrase was read by the rule that is chosen
inverted : {n : Nonterminal} {inner symbols : List Symbol} {ts rest : List Token} {z : PhraseTrees (N n ∷ symbols)} (r : Rule n inner)
    → chosen_rule n (first ts) (second ts) ≡ Some (inner, r) → Reads (N n ∷ symbols) ts rest z
    → (middle : List Token) × (v : PhraseTrees inner) × Reads inner ts middle v × (z.0 ≡ tree_of r v) × Reads symbols middle rest z.1
inverted {n = n} {symbols = symbols} {ts = ts} {rest = rest} r c (read_phrase {w = w} {m = m} r' c' d e d') =
    let P : Choice n → Type 0 = λ y. (middle : List Token) × (v : PhraseTrees y.0) × Reads y.0 ts middle v × (w ≡ tree_of y.1 v) × Reads symbols middle rest m in
    subst P (some-same (sym c' ∙ c)) (_, _, d, e, d')

paired : {A B : Type 0} {a c : A} {b d : B} → a ≡ c → b ≡ d → ◌≡◌ {A = A × B} (a, b) (c, d)
paired e f = cc

-- a reading is the only one
pub unique : {symbols : List Symbol} {ts rest other : List Token} {m w : PhraseTrees symbols} → Reads symbols ts rest m → Reads symbols ts other w
    → (rest ≡ other) × (m ≡ w)
unique read_nothing read_nothing = (refl, refl)
unique (read_token {s = s} i d) (read_token i' d') = let x = unique d d' in (x.0, paired (same_token s i i') x.1)
unique {rest = rest} {other = other} (read_phrase {m = m} r c d e d') (read_phrase {m = m'} r' c' q e' q') =
    let x = inverted r c (read_phrase r' c' q e' q') in
    let one = unique d x.2 in
    let y : (rest ≡ other) × (m ≡ m') = unique d' (rw one.0 x.4) in
    (y.0, paired (e ∙ ap (tree_of r) one.1 ∙ sym x.3) y.1)

-- the trees of some symbols, and of those after them
abbrev pub trees : (symbols more : List Symbol) → PhraseTrees symbols → PhraseTrees more → PhraseTrees (symbols ++ more)
trees [] more m w = w
trees (s ∷ symbols) more m w = (m.0, trees symbols more m.1 w)

pub followed : {symbols more : List Symbol} {ts middle rest : List Token} {m : PhraseTrees symbols} {w : PhraseTrees more} → Reads symbols ts middle m
    → Reads more middle rest w → Reads (symbols ++ more) ts rest (trees symbols more m w)
followed read_nothing q = q
followed (read_token i d) q = read_token i (followed d q)
followed (read_phrase r c d e d') q = read_phrase r c d e (followed d' q)

abbrev pub ahead : List Token → Option Token → Option Token
ahead [] next = next
ahead (t ∷ p) next = Some t

abbrev pub ahead-two : List Token → Option Token → Option Token → Option Token
ahead-two [] next after = after
ahead-two (t ∷ p) next after = ahead p next

-- stuck after the tokens, with this one next, whatever stands after it
pub data StuckAt : List Symbol → List Token → Option Token → Type 0 where
  at_extra : {t : Token} → StuckAt [] [] (Some t)
  at_token : {s : Sort} {symbols : List Symbol} {next : Option Token} →
      ((t : Token) (v : SortTree s) → next ≡ Some t → IsToken s t v → ⊥) → StuckAt (T s ∷ symbols) [] next
  at_past : {s : Sort} {symbols : List Symbol} {t : Token} {p : List Token} {next : Option Token} {v : SortTree s} →
      IsToken s t v → StuckAt symbols p next → StuckAt (T s ∷ symbols) (t ∷ p) next
  at_phrase : {n : Nonterminal} {symbols : List Symbol} {next : Option Token} → ((after : Option Token) → chosen_rule n next after ≡ None)
      → StuckAt (N n ∷ symbols) [] next
  at_inside : {n : Nonterminal} {inner symbols : List Symbol} {p : List Token} {next : Option Token} (r : Rule n inner) →
      ((after : Option Token) → chosen_rule n (ahead p next) (ahead-two p next after) ≡ Some (inner, r)) → StuckAt (inner ++ symbols) p next
      → StuckAt (N n ∷ symbols) p next

-- where the second token has no say, it may change
pub one-token : (n : Nonterminal) (next after other : Option Token) → (Peeks n next → ⊥) → chosen_rule n next after ≡ chosen_rule n next other
one-token a_declaration (Some (The Unsigned)) after other h = absurd (h tt)
one-token simple (Some (Name x)) after other h = absurd (h tt)
one-token value (Some (Name x)) after other h = absurd (h tt)
one-token (operands unary_expressions) (Some (Name x)) after other h = absurd (h tt)
one-token (operands unary_expressions) (Some (The Minus)) after other h = refl
one-token _ _ after other h = refl

first-append : (p rest : List Token) → first (p ++ rest) ≡ ahead p (first rest)
first-append [] rest = refl
first-append (t ∷ p) rest = refl

second-append : (p rest : List Token) → second (p ++ rest) ≡ ahead-two p (first rest) (second rest)
second-append [] rest = refl
second-append (t ∷ p) rest = first-append p rest

chosen-at : {n : Nonterminal} {ts : List Token} {x : Option (Choice n)} (p rest : List Token) → ts ≡ p ++ rest → chosen_rule n (first ts) (second ts) ≡ x
    → (Peeks n (first ts) → length rest < length ts) → (after : Option Token)
    → chosen_rule n (ahead p (first rest)) (ahead-two p (first rest) after) ≡ x
chosen-at {n = n} {ts = ts} [] rest e c k after =
    rw (← e) (one-token n (first ts) after (second ts) (λ h. let a = k h in let l = ap length e in absurd (omega (arith, a, l))) ∙ c)
chosen-at (t ∷ p) rest e c k after = rw (← first-append p rest) (rw e at c)

pub stuck_at : {symbols : List Symbol} {ts rest : List Token} → Stuck symbols ts rest → (p : List Token) × (ts ≡ p ++ rest) × StuckAt symbols p (first rest)
stuck_at stuck_extra = ([], refl, at_extra)
stuck_at (stuck_token h) = ([], refl, at_token h)
stuck_at (stuck_past {t = t} i s) = let r = stuck_at s in (t ∷ r.0, ap (λ (x : List Token). t ∷ x) r.1, at_past i r.2)
stuck_at (stuck_phrase c) = ([], refl, at_phrase c)
stuck_at (stuck_inside {inner = inner} r c k s) = let q = stuck_at s in (q.0, q.1, at_inside {inner = inner} r (chosen-at q.0 _ q.1 c k) q.2)

-- no derivation has the tokens before the place where it got stuck, and the next one
pub dead : {symbols : List Symbol} {p : List Token} {next : Option Token} {m : PhraseTrees symbols} → StuckAt symbols p next → (rest : List Token)
    → first rest ≡ next → Reads symbols (p ++ rest) [] m → ⊥
dead at_extra rest e read_nothing = cc
dead (at_token h) rest e (read_token {t = t} {v = v} i d) = h t v (sym e) i
dead (at_past i s) rest e (read_token i' d) = dead s rest e d
dead (at_phrase c) rest e (read_phrase r' c' d e' d') = let a = c (second rest) in cc
dead {p = p} (at_inside {n = n} {inner = inner} r c s) rest e d =
    let chosen : chosen_rule n (first (p ++ rest)) (second (p ++ rest)) ≡ Some (inner, r) = rw (first-append p rest, second-append p rest, e) (c (second rest)) in
    let x = inverted r chosen d in
    dead s rest e (followed x.2 x.4)
