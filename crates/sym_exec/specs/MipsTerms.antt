-- What a pass knows of the terms of MIPS.
use Rattle.std.specs.Prelude.{ℕ, List}
use Rattle.sym_terms.specs.declared.label.Label.{Label}
use Rattle.sym_terms.specs.Labels.{label_coding}
use Rattle.sym_terms.specs.Trees.{Tree, Trees}
use Rattle.term_table.specs.Passes.{PassState}
use Rattle.term_table.specs.Terms as terms

abbrev pub HasTree : PassState → ℕ → Tree → Type 0
HasTree = terms.HasTerm label_coding

abbrev pub HaveTrees : PassState → List ℕ → Trees → Type 0
HaveTrees = terms.HaveTerms label_coding

abbrev pub HasSeen : PassState → ℕ → Type 0
HasSeen = terms.HasSeenTerm label_coding

-- no ticket has the tree in what the pass has seen
abbrev pub Lacks : PassState → Tree → Type 0
Lacks = terms.LacksTerm label_coding

abbrev pub IsNode : PassState → Label → List ℕ → Tree → Type 0
IsNode = terms.IsTermNode label_coding

abbrev pub HaveSeen : PassState → List ℕ → Type 0
HaveSeen = terms.HasSeenTerms label_coding
