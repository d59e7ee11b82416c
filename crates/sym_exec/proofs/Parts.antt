-- Where a part of a term has no ticket, the term has none.
use Rattle.std.proofs.Common.{◌≡◌, ◌∙◌, ℕ, ◌==◌, Bool, true, false, cond, List, [], ◌∷◌, ◌++◌, Option, Some, None, refl, sym, ap, append-nil}
use Rattle.std.proofs.lemmas.Option.{none-some, same_Some}
use Rattle.term_labels.specs.WordTrees.{Tree, Trees, node, more}
use Rattle.term_core.specs.declared.Call.{Call}
use Rattle.term_core.specs.declared.Call.TheVariants.{Intern}
use Rattle.term_core.specs.declared.Answer.{Answer}
use Rattle.term_core.specs.declared.Answer.TheVariants.{Ticket}
use Rattle.term_core.specs.declared.Entry.{Entry}
use Rattle.term_core.specs.Terms.{Pair, Has, tree_at, trees_at, tree_over, is_there, pair_if, adds, pairs_from}
use Rattle.term_core.proofs.Replay.{tree_more, tree_new, trees_cons, trees_more, over_trees}
use Rattle.sym_terms.specs.declared.label.Label.{Label}
use Rattle.sym_terms.specs.Trees as terms
use Rattle.term_table.specs.Passes.{PassState}
use Rattle.sym_exec.specs.MipsTerms.{Lacks}

abbrev kids : Tree → Trees
kids (node l xs) = xs

-- with a tree its parts have tickets
abbrev Closed : List Pair → Type 0
Closed ps = (t : ℕ) (x : Tree) → tree_at ps t ≡ Some x → (ks : List ℕ) × (trees_at ps ks ≡ Some (kids x))

closed_one : (ps : List Pair) (y : Tree) (t by : ℕ) (ks : List ℕ) → Closed ps → trees_at ps ks ≡ Some (kids y)
    → Closed (ps ++ record { tree = y; ticket = t; by = by } ∷ [])
closed_one ps y t by ks closed parts u x e = go (tree_at ps u) refl
  where
    new : List Pair
    new = record { tree = y; ticket = t; by = by } ∷ []

    last : (b : Bool) → cond b (Some y) None ≡ Some x → trees_at ps ks ≡ Some (kids x)
    last true is = rw (← same_Some y x is) parts
    last false is = absurd (none-some x is)

    go : (o : Option Tree) → tree_at ps u ≡ o → (js : List ℕ) × (trees_at (ps ++ new) js ≡ Some (kids x))
    go (Some z) is = let k = closed u x (is ∙ (sym (tree_more ps new u z is) ∙ e)) in (k.0, trees_more ps new k.0 (kids x) k.1)
    go None is = (ks, trees_more ps new ks (kids x) (last (t == u) (sym (tree_new ps new u is) ∙ e)))

closed_adds : (ps : List Pair) (by : ℕ) (c : Call) (a : Answer) → Closed ps → Closed (ps ++ adds ps by c a)
closed_adds ps by (Intern l ks) (Ticket t) h = go (is_there (tree_at ps t)) (tree_over ps l ks) refl
  where
    go : (b : Bool) (o : Option Tree) → tree_over ps l ks ≡ o → Closed (ps ++ cond b [] (pair_if o t by))
    go false (Some y) is = let g = over_trees ps l ks y is in closed_one ps y t by ks h (rw g.2 g.1)
    go true _ is = rw append-nil h
    go false None is = rw append-nil h
closed_adds ps by _ _ h = rw append-nil h

closed_from : (ps : List Pair) (h : List Entry) → Closed ps → Closed (pairs_from ps h)
closed_from ps [] closed = closed
closed_from ps (e ∷ es) closed = closed_from (ps ++ adds ps e.by e.call e.answer) es (closed_adds ps e.by e.call e.answer closed)

-- the first of some trees has a ticket, and so have the others
first : (ps : List Pair) (ks : List ℕ) (x : Tree) (xs : Trees) → trees_at ps ks ≡ Some (more x xs) → Has ps x × (js : List ℕ) × (trees_at ps js ≡ Some xs)
first ps [] x xs e = absurd (cc)
first ps (k ∷ ks) x xs e =
    let g = trees_cons ps k ks (more x xs) e in
    let same : more x xs ≡ more g.0 g.1 = g.4 in
    let head : g.0 ≡ x = cc in
    let rest : g.1 ≡ xs = cc in
    ((k, g.2 ∙ ap Some head), ks, g.3 ∙ ap Some rest)

module _ (p : PassState) (l : Label) (x : terms.Tree) where
  closed : Closed (pairs_from [] p.seen)
  closed = closed_from [] p.seen (λ t x e. absurd (none-some x e))

  pub lacks_first : (xs : terms.Trees) → Lacks p x → Lacks p (terms.node l (terms.more x xs))
  lacks_first xs lacks = λ t e. let kids = closed t _ e in let one = first _ kids.0 _ _ kids.1 in lacks one.0.0 one.0.1

  pub lacks_second : (y : terms.Tree) (xs : terms.Trees) → Lacks p y → Lacks p (terms.node l (terms.more x (terms.more y xs)))
  lacks_second y xs lacks = λ t e.
      let kids = closed t _ e in
      let rest = first _ kids.0 _ _ kids.1 in
      let one = first _ rest.1 _ _ rest.2 in
      lacks one.0.0 one.0.1
