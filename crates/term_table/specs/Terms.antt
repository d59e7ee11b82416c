-- What a pass knows of the terms over labels of one type. The table knows a term by its tree of words.
use Rattle.std.specs.Prelude.{◌≡◌, ℕ, true, List, [], ◌∷◌, Some}
use Rattle.term_labels.specs.Trees.{Tree, Trees, node, none, more}
use Rattle.term_labels.specs.Codings.{Coding, words_of, is_tree}
use Rattle.term_core.specs.Terms.{pairs_of, tree_at}
use Rattle.term_table.specs.Passes.{PassState, HasSeen}

-- the pass has seen the ticket, and its term is x
pub record HasTerm {L : Type 0} (c : Coding L) (p : PassState) (t : ℕ) (x : Tree L) : Type 0 where
  pub proper : is_tree c x ≡ true
  pub seen : HasSeen p t
  pub tree : tree_at (pairs_of p.seen) t ≡ Some (words_of c x)

-- the tickets have these terms, one by one
abbrev pub HaveTerms : {L : Type 0} → Coding L → PassState → List ℕ → Trees L → Type 0
HaveTerms c p [] none = Unit {0}
HaveTerms c p [] (more x xs) = ⊥
HaveTerms c p (t ∷ ts) none = ⊥
HaveTerms c p (t ∷ ts) (more x xs) = HasTerm c p t x × HaveTerms c p ts xs

-- the pass has seen the ticket, and it is that of a term over these labels
pub record HasSeenTerm {L : Type 0} (c : Coding L) (p : PassState) (t : ℕ) : Type 0 where
  pub term : Tree L
  pub has : HasTerm c p t term

abbrev pub HasSeenTerms : {L : Type 0} → Coding L → PassState → List ℕ → Type 0
HasSeenTerms c p [] = Unit {0}
HasSeenTerms c p (t ∷ ts) = HasSeenTerm c p t × HasSeenTerms c p ts

-- no ticket has the term in what the pass has seen
abbrev pub LacksTerm : {L : Type 0} → Coding L → PassState → Tree L → Type 0
LacksTerm c p x = (t : ℕ) → tree_at (pairs_of p.seen) t ≡ Some (words_of c x) → ⊥

-- the term is the label over the terms of these tickets
pub record IsTermNode {L : Type 0} (c : Coding L) (p : PassState) (label : L) (children : List ℕ) (x : Tree L) : Type 0 where
  pub trees : Trees L
  pub tree : x ≡ node label trees
  pub have : HaveTerms c p children trees
