-- What a sequence of symbols reads, and where it gets stuck, from its first symbols and the others.
use Rattle.std.proofs.Common.{◌≡◌, ◌<◌, suc, List, [], ◌∷◌, ◌++◌, Option, Some, None, length, refl, ap, ◌∙◌, append_assoc, arith}
use Rattle.std.specs.Borrow.{Bor}
use Rattle.c_tokens.specs.declared.token.Token.{Token}
use Rattle.c_tokens.specs.declared.token.Token.TheVariants.{The}
use Rattle.c_tokens.specs.declared.token.Mark.{Mark}
use Rattle.c_front.specs.Grammar.{Sort, a_name, a_constant, the, Nonterminal, Symbol, T, N, PhraseTree, SortTree, PhraseTrees, Rule, first, second}
use Rattle.c_front.specs.Grammar.{IsToken, tree_of, is_the}
use Rattle.c_front.specs.Reading.{Reads, read_nothing, read_token, read_phrase, stuck_token, stuck_phrase, stuck_inside}
use Rattle.c_front.specs.Choosing.{chosen_rule, Peeks}
use Rattle.c_front.specs.declared.cursor.ParseStop.{ParseStop}
use Rattle.c_front.specs.declared.cursor.ParseStop.TheVariants.{Syntax, NoMemory}
use Rattle.c_front.specs.Parsing.{StartsWith, IsRead, AreStuck, are_stuck, without_memory, IsStuck, IsMissing, IsNameMissing, IsConstantMissing}
use Rattle.c_front.proofs.Reading.{stuck_after, stuck-within, trees, token-is}
pub use Rattle.c_front.proofs.Reading.{followed}

-- what stands in front, by its parts
pub at-first : {ts rest : List Token} {t u : Token} → ts ≡ t ∷ rest → t ≡ u → ts ≡ u ∷ rest
at-first some is = cc

pub at-mark : {ts rest : List Token} {t : Token} {m n : Mark} → ts ≡ t ∷ rest → t ≡ The m → m ≡ n → ts ≡ The n ∷ rest
at-mark some is same = cc

pub shorter : {ts rest : List Token} {t : Token} → ts ≡ t ∷ rest → length ts ≡ suc (length rest)
shorter some = ap length some

-- one token
pub one : {k : Sort} {t : Token} {v : SortTree k} {ts rest : List Token} → IsToken k t v → ts ≡ t ∷ rest → Reads (T k ∷ []) ts rest (v, tt)
one is e = rw e (read_token is read_nothing)

pub mark : {u : Mark} {ts rest : List Token} → StartsWith u ts rest → Reads (T (the u) ∷ []) ts rest (tt, tt)
mark e = one is_the e

pub whole : {n : Nonterminal} {inner : List Symbol} {ts rest : List Token} {m : PhraseTrees inner} (r : Rule n inner)
    → chosen_rule n (first ts) (second ts) ≡ Some (inner, r) → Reads inner ts rest m → IsRead n ts rest (tree_of r m)
whole r c d = read_phrase r c d refl read_nothing

-- a phrase that is another, with what stands after it
pub wrapped : {n inner : Nonterminal} {more : List Symbol} {ts rest : List Token} {v : PhraseTree inner} {w : PhraseTrees more} (r : Rule n (N inner ∷ []))
    → chosen_rule n (first ts) (second ts) ≡ Some (N inner ∷ [], r) → Reads (N inner ∷ more) ts rest (v, w)
    → Reads (N n ∷ more) ts rest (tree_of r (v, tt), w)
wrapped r c (read_phrase r' c' d e z) = read_phrase r c (read_phrase r' c' d e read_nothing) refl z

-- a phrase whose rule begins with a token, which chooses it
pub taken : {n : Nonterminal} {k : Sort} {more : List Symbol} {t : Token} {v : SortTree k} {ts a rest : List Token} {m : PhraseTrees more}
    (r : Rule n (T k ∷ more)) → IsToken k t v → ts ≡ t ∷ a → chosen_rule n (Some t) (first a) ≡ Some (T k ∷ more, r) → Reads more a rest m
    → IsRead n ts rest (tree_of r (v, m))
taken r is e c d = whole r (rw e c) (followed (one is e) d)

pub past : {symbols more : List Symbol} {ts middle : List Token} {m : PhraseTrees symbols} {s : ParseStop} → Reads symbols ts middle m
    → AreStuck more middle s → AreStuck (symbols ++ more) ts s
past d (are_stuck h) = are_stuck (λ others. rw append_assoc (stuck_after d (h others)))
past d without_memory = without_memory

-- stuck within the first symbols
pub within : {symbols : List Symbol} {ts : List Token} {s : ParseStop} (more : List Symbol) → AreStuck symbols ts s → AreStuck (symbols ++ more) ts s
within more (are_stuck h) = are_stuck (λ others. rw append_assoc (h (more ++ others)))
within more without_memory = without_memory

-- stuck within a phrase, with what stands after it
pub inside-more : {n : Nonterminal} {inner more : List Symbol} {ts : List Token} {s : ParseStop} (r : Rule n inner)
    → chosen_rule n (first ts) (second ts) ≡ Some (inner, r) → (Peeks n (first ts) → ⊥) → AreStuck (inner ++ more) ts s → AreStuck (N n ∷ more) ts s
inside-more {inner = inner} {more = more} r c k (are_stuck h) =
    are_stuck (λ symbols. stuck_inside r c (λ z. absurd (k z)) (rw (← append_assoc inner more symbols) (h symbols)))
inside-more r c k without_memory = without_memory

pub inside : {n : Nonterminal} {inner : List Symbol} {ts : List Token} {s : ParseStop} (r : Rule n inner)
    → chosen_rule n (first ts) (second ts) ≡ Some (inner, r) → (Peeks n (first ts) → ⊥) → AreStuck inner ts s → IsStuck n ts s
inside r c k h = inside-more r c k (within [] h)

-- stuck after a part that has a token at least, as the second token may have a say
pub inside-past : {n : Nonterminal} {symbols more : List Symbol} {ts middle : List Token} {m : PhraseTrees symbols} {s : ParseStop}
    (r : Rule n (symbols ++ more)) → chosen_rule n (first ts) (second ts) ≡ Some (symbols ++ more, r) → Reads symbols ts middle m
    → length middle < length ts → AreStuck more middle s → IsStuck n ts s
inside-past r c d l (are_stuck h) = are_stuck (λ symbols.
    let w = stuck-within (h symbols) in
    stuck_inside r c (λ z. omega (arith, w, l)) (rw append_assoc (stuck_after d (h symbols))))
inside-past r c d l without_memory = without_memory

pub begun : {n : Nonterminal} {k : Sort} {more : List Symbol} {t : Token} {v : SortTree k} {ts a : List Token} {s : ParseStop} (r : Rule n (T k ∷ more))
    → IsToken k t v → ts ≡ t ∷ a → chosen_rule n (Some t) (first a) ≡ Some (T k ∷ more, r) → AreStuck more a s → IsStuck n ts s
begun r is e c h = let l = ap length e in inside-past r (rw e c) (one is e) (omega (arith, l)) h

-- no rule begins with what stands there
pub no-phrase : {n : Nonterminal} {more : List Symbol} {ref : Bor (List Token)} {ts : List Token} → ref.now ≡ ts
    → ((after : Option Token) → chosen_rule n (first ts) after ≡ None) → AreStuck (N n ∷ more) ref.now (Syntax ref)
no-phrase e h = are_stuck (λ symbols. stuck_phrase (λ after. rw e (h after)))

missing-sort : {k : Sort} {more : List Symbol} {ts : List Token} {rest : Bor (List Token)} → rest.now ≡ ts
    → ((t : Token) (v : SortTree k) → first ts ≡ Some t → IsToken k t v → ⊥) → AreStuck (T k ∷ more) ts (Syntax rest)
missing-sort e none = are_stuck (λ symbols. rw e (stuck_token none))

pub missing : {u : Mark} {more : List Symbol} {ts : List Token} {s : ParseStop} → IsMissing u ts s → AreStuck (T (the u) ∷ more) ts s
missing {s = Syntax rest} h = missing-sort h.0 (λ t v e is. h.1 (e ∙ ap Some (token-is is)))
missing {s = NoMemory} h = without_memory

pub name-missing : {more : List Symbol} {ts : List Token} {s : ParseStop} → IsNameMissing ts s → AreStuck (T a_name ∷ more) ts s
name-missing {s = Syntax rest} h = missing-sort h.0 (λ t v e is. h.1 v (e ∙ ap Some (token-is is)))
name-missing {s = NoMemory} h = without_memory

pub constant-missing : {more : List Symbol} {ts : List Token} {s : ParseStop} → IsConstantMissing ts s → AreStuck (T a_constant ∷ more) ts s
constant-missing {s = Syntax rest} h = missing-sort h.0 (λ t v e is. h.1 v (e ∙ ap Some (token-is is)))
constant-missing {s = NoMemory} h = without_memory

-- a place within a phrase: what was read before, and what goes on from there
pub record GoesOn (n more : Nonterminal) (ts middle : List Token) (tree : PhraseTree more → PhraseTree n) : Type 0 where
  pub reads : (rest : List Token) (m : PhraseTree more) → IsRead more middle rest m → IsRead n ts rest (tree m)
  pub stuck : (s : ParseStop) → IsStuck more middle s → IsStuck n ts s

pub goes-first : {n : Nonterminal} {ts : List Token} → GoesOn n n ts ts (λ m. m)
goes-first = record { reads = λ rest m q. q; stuck = λ s h. h }

pub goes-more : {n more next : Nonterminal} {symbols : List Symbol} {ts middle after : List Token} {v : PhraseTrees symbols}
    {tree : PhraseTree more → PhraseTree n} {to : PhraseTree next → PhraseTree n} → GoesOn n more ts middle tree → (r : Rule more (symbols ++ N next ∷ []))
    → chosen_rule more (first middle) (second middle) ≡ Some (symbols ++ N next ∷ [], r) → (Peeks more (first middle) → ⊥) → Reads symbols middle after v
    → ((m : PhraseTree next) → to m ≡ tree (tree_of r (trees symbols (N next ∷ []) v (m, tt)))) → GoesOn n next ts after to
goes-more g r c k d same = record {
  reads = λ rest m q. rw (same m) (g.reads rest _ (whole r c (followed d q)));
  stuck = λ s h. g.stuck s (inside r c k (past d h));
}
