-- What terms mean, by what a label makes of the values of its children, and what a ticket means.
use Rattle.std.specs.Prelude.{◌≡◌, ℕ, true, List, [], ◌∷◌, length}
use Rattle.term_labels.specs.Trees.{Tree, Trees, node, none, more}
use Rattle.term_labels.specs.Codings.{Coding}
use Rattle.term_table.specs.Passes.{PassState}
use Rattle.term_table.specs.Trees.{Extends, Learns, HasLegalHistory}
use Rattle.term_table.specs.Terms.{HasTerm, HaveTerms, IsTermNode}

-- the words of labels, and the value that a label makes of its children's in an environment
pub record Algebra (L V E : Type 0) : Type 0 where
  pub coding : Coding L
  pub made : L → E → List V → V

-- what a term means
abbrev mutual
  pub value_of : {L V E : Type 0} → Algebra L V E → Tree L → E → V
  value_of a (node l xs) e = a.made l e (values_of a xs e)

  pub values_of : {L V E : Type 0} → Algebra L V E → Trees L → E → List V
  values_of a none e = []
  values_of a (more x xs) e = value_of a x e ∷ values_of a xs e

-- the pass knows the ticket as that of a term with this value in each environment
pub record Means {L V E : Type 0} (a : Algebra L V E) (p : PassState) (t : ℕ) (f : E → V) : Type 0 where
  pub term : Tree L
  pub has : HasTerm a.coding p t term
  pub value : (e : E) → value_of a term e ≡ f e

-- the tickets are those of terms with these values, one by one
pub record AllMean {L V E : Type 0} (a : Algebra L V E) (p : PassState) (ts : List ℕ) (fs : E → List V) : Type 0 where
  pub terms : Trees L
  pub have : HaveTerms a.coding p ts terms
  pub values : (e : E) → values_of a terms e ≡ fs e

-- what q knows of tickets that p knew
pub record MeaningLasts {L V E : Type 0} (a : Algebra L V E) : Type 0 where
  pub still : (p q : PassState) (t : ℕ) (f : E → V) → Extends p q → Means a p t f → Means a q t f
  pub learns : (p q : PassState) (t : ℕ) (f : E → V) → Learns q p → Means a p t f → Means a q t f

-- by what calls say of the term of a label over these tickets
pub record LabelsMakeMeanings {L V E : Type 0} (a : Algebra L V E) : Type 0 where
  pub interned : (p q : PassState) (l : L) (ts : List ℕ) (t : ℕ) (fs : E → List V)
      → ((xs : Trees L) → HaveTerms a.coding p ts xs → HasTerm a.coding q t (node l xs))
      → AllMean a p ts fs → Means a q t (λ e. a.made l e (fs e))
  pub read : (p q : PassState) (l : L) (ts : List ℕ) (t : ℕ) (f : E → V)
      → ((x : Tree L) → HasTerm a.coding p t x → IsTermNode a.coding q l ts x)
      → Means a p t f → (fs : E → List V) × AllMean a q ts fs × ((e : E) → a.made l e (fs e) ≡ f e)

abbrev pub EqualTicketsMeanTheSame : {L V E : Type 0} → Algebra L V E → Type 0
EqualTicketsMeanTheSame {L} {V} {E} a = (p : PassState) (t u : ℕ) (f g : E → V) → Means a p t f → Means a p u g
    → t ≡ u → (e : E) → f e ≡ g e

-- what a label makes of as many values as its arity gives the label and the values away
abbrev pub ValuesSeparateTerms : {L V E : Type 0} → Algebra L V E → Type 0
ValuesSeparateTerms {L} {V} {E} a = (l m : L) (fs gs : E → List V) → a.coding.is_label l ≡ true → a.coding.is_label m ≡ true
    → ((e : E) → length (fs e) ≡ a.coding.arity l) → ((e : E) → length (gs e) ≡ a.coding.arity m)
    → ((e : E) → a.made l e (fs e) ≡ a.made m e (gs e)) → (l ≡ m) × ((e : E) → fs e ≡ gs e)

abbrev pub MeaningsHaveOneTicket : {L V E : Type 0} → Algebra L V E → Type 0
MeaningsHaveOneTicket {L} {V} {E} a = (p : PassState) (t u : ℕ) (f g : E → V) → HasLegalHistory p → Means a p t f → Means a p u g
    → ((e : E) → f e ≡ g e) → t ≡ u
