-- Derivations in which each rule is the one that the next two tokens choose, and where they get stuck.
use Rattle.std.specs.Prelude.{◌≡◌, ◌<◌, List, [], ◌∷◌, ◌++◌, Option, Some, None, length}
use Rattle.c_tokens.specs.declared.token.Token.{Token}
use Rattle.c_front.specs.Grammar.{Sort, Nonterminal, Symbol, T, N, PhraseTree, SortTree, PhraseTrees, Rule, tree_of, first, second, IsToken}
use Rattle.c_front.specs.Choosing.{chosen_rule, Peeks}

pub data Reads : (symbols : List Symbol) → List Token → List Token → PhraseTrees symbols → Type 0 where
  read_nothing : {ts : List Token} → Reads [] ts ts tt
  read_token : {s : Sort} {symbols : List Symbol} {t : Token} {ts rest : List Token} {v : SortTree s} {m : PhraseTrees symbols} →
      IsToken s t v → Reads symbols ts rest m → Reads (T s ∷ symbols) (t ∷ ts) rest (v, m)
  read_phrase : {n : Nonterminal} {inner symbols : List Symbol} {ts middle rest : List Token} {v : PhraseTrees inner} {w : PhraseTree n}
      {m : PhraseTrees symbols} →
      (r : Rule n inner) → chosen_rule n (first ts) (second ts) ≡ Some (inner, r) → Reads inner ts middle v → w ≡ tree_of r v →
      Reads symbols middle rest m → Reads (N n ∷ symbols) ts rest (w, m)

-- where the second token had a say, the first one isn't where it gets stuck
pub data Stuck : List Symbol → List Token → List Token → Type 0 where
  stuck_extra : {t : Token} {ts : List Token} → Stuck [] (t ∷ ts) (t ∷ ts)
  stuck_token : {s : Sort} {symbols : List Symbol} {ts : List Token} →
      ((t : Token) (v : SortTree s) → first ts ≡ Some t → IsToken s t v → ⊥) → Stuck (T s ∷ symbols) ts ts
  stuck_past : {s : Sort} {symbols : List Symbol} {t : Token} {ts rest : List Token} {v : SortTree s} →
      IsToken s t v → Stuck symbols ts rest → Stuck (T s ∷ symbols) (t ∷ ts) rest
  stuck_phrase : {n : Nonterminal} {symbols : List Symbol} {ts : List Token}
      → ((after : Option Token) → chosen_rule n (first ts) after ≡ None)
      → Stuck (N n ∷ symbols) ts ts
  stuck_inside : {n : Nonterminal} {inner symbols : List Symbol} {ts rest : List Token} (r : Rule n inner) →
      chosen_rule n (first ts) (second ts) ≡ Some (inner, r) → (Peeks n (first ts) → length rest < length ts)
      → Stuck (inner ++ symbols) ts rest
      → Stuck (N n ∷ symbols) ts rest

pub data CanRead (symbols : List Symbol) (ts rest : List Token) : Type 0 where
  can_read : {m : PhraseTrees symbols} → Reads symbols ts rest m → CanRead symbols ts rest
