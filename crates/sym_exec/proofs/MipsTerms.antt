-- The lemmas of the table, for the terms of MIPS.
use Rattle.std.proofs.Common.{◌≡◌, ℕ}
use mathlib.Core.Logic.{◌↔◌}
use Rattle.sym_terms.specs.Trees.{Tree}
use Rattle.sym_terms.specs.Back.{label_with-back}
use Rattle.term_table.specs.Passes.{PassState}
use Rattle.term_table.specs.Trees.{Extends, HasLegalHistory}
use Rattle.term_table.proofs.TermCallers as terms
use Rattle.sym_exec.specs.MipsTerms.{HasTree, HasSeen}

pub still_tree : {p q : PassState} {t : ℕ} {x : Tree} → Extends p q → HasTree p t x → HasTree q t x
still_tree {p} {q} {t} {x} e h = terms.still_term e h

pub still_seen : {p q : PassState} → Extends p q → (t : ℕ) → HasSeen p t → HasSeen q t
still_seen {p} {q} e t h = terms.still_seen_term e h

-- a ticket whose tree is known has been seen
pub tree_seen : {p : PassState} {t : ℕ} {x : Tree} → HasTree p t x → HasSeen p t
tree_seen {p} {t} {x} h = record { term = x; has = h }

pub one_tree : {p : PassState} {t : ℕ} {x y : Tree} → HasTree p t x → HasTree p t y → x ≡ y
one_tree {p} {t} {x} {y} h k = terms.one_term label_with-back h k

pub same_trees : {p : PassState} {t u : ℕ} {x y : Tree} → HasLegalHistory p → HasTree p t x → HasTree p u y → (t ≡ u) ↔ (x ≡ y)
same_trees {p} {t} {u} {x} {y} legal h k = terms.same_terms label_with-back legal h k
