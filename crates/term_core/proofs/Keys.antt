-- A tree is there exactly where a node of its chain has its content.
use Rattle.std.proofs.Common.{◌≡◌, ℕ, Bool, true, false, List, [], ◌∷◌, Some, refl, sym, ap, subst, ◌∙◌, append-nil, arith}
use Rattle.term_core.specs.declared.Call.{Call}
use Rattle.term_core.specs.declared.Call.TheVariants.{Read}
use Rattle.term_labels.specs.WordTrees.{Tree, node}
use Rattle.term_core.specs.Terms.{Pair, tree_at, trees_at, tree_over, node_if, Has}
use Rattle.term_core.specs.World.{Shape, IsShape, kid_in, kid_word, content_of, content, at_most_three}
use Rattle.term_core.proofs.Replay.{One, one_kids}
use Rattle.term_core.proofs.Chains.{Mem, Linked, end_of, linked_rest}
use Rattle.term_core.proofs.Kept.{word, SameAs, kids_at, home, Shared, label_of, kids_of, Searches, chain_of, Walk}

abbrev kids_back_from : List ℕ → List ℕ
kids_back_from ks = kid_in (kid_word ks 0) (kid_in (kid_word ks 1) (kid_in (kid_word ks 2) []))

pub kids_back : (ks : List ℕ) → at_most_three ks ≡ true → kids_back_from ks ≡ ks
kids_back (a ∷ b ∷ c ∷ d ∷ ks) h = absurd (let k : false ≡ true = h in cc)
kids_back _ h = refl

pub content_is : (c : Call) → Searches c → content c ≡ content_of (label_of c) (kids_of c)
content_is (Read t) h = absurd h
content_is _ h = refl

module _ (s : Shape) (words : List ℕ) (t : ℕ) (l : ℕ) (ks : List ℕ) (three : at_most_three ks ≡ true)
    (same : SameAs s words t (content_of l ks)) where
  pub label_is : word s words t 0 ≡ l
  label_is = same 0 (omega arith)

  pub kids_is : kids_at s words t ≡ ks
  kids_is = rw (same 1 (omega arith), same 2 (omega arith), same 3 (omega arith)) (kids_back ks three)

  pub home_is : home s words t ≡ s.chain l ks
  home_is = λ i. s.chain (label_is i) (kids_is i)

module _ {s : Shape} {words : List ℕ} {ps : List Pair} {chains : ℕ → List ℕ} {own room : ℕ} {c : Call} {w : Bool} {pre post : List ℕ}
    (k : Walk s words ps chains own room c w pre post) where
  abbrev pub tree_of : Tree
  tree_of = node (label_of c) k.trees

  pub over : tree_over ps (label_of c) (kids_of c) ≡ Some tree_of
  over = ap (node_if (label_of c)) k.known

  pub rest_linked : IsShape s → Shared s words ps chains → (a : ℕ) → a ≡ end_of s (chain_of s c) pre → Linked s words a post
  rest_linked ok sh a e = rw e (linked_rest s words (chain_of s c) pre post (rw k.split at (sh.rows (chain_of s c) (ok.1 _ _))))

  -- a node of the chain with the call's content has its tree
  pub matched : Shared s words ps chains → (t : ℕ) → Mem t (chains (chain_of s c)) → SameAs s words t (content c) → tree_at ps t ≡ Some tree_of
  matched sh t m same =
      let at = (sh.back (chain_of s c) t m).1 in
      let st = (sh.there t at.0 at.1).0 in
      let mine : SameAs s words t (content_of (label_of c) (kids_of c)) = rw (content_is c k.searches) at same in
      let l : st.label ≡ label_of c = sym (label_is s words t _ st.kids st.three st.holds) ∙ label_is s words t _ (kids_of c) k.three mine in
      let ks : st.kids ≡ kids_of c = sym (kids_is s words t _ _ st.three st.holds) ∙ kids_is s words t _ _ k.three mine in
      let q : Some st.trees ≡ Some k.trees = sym st.kids_are ∙ ap (trees_at ps) ks ∙ k.known in
      let ts : st.trees ≡ k.trees = cc in
      at.1 ∙ ap Some (st.tree_is ∙ (λ i. node (l i) (ts i)))

  -- where the chain was compared to its end, the tree is not there
  pub missing : Shared s words ps chains → One ps → post ≡ [] → Has ps tree_of → ⊥
  missing sh one none (t, has) =
      let r = sh.there t tree_of has in
      let st = r.0 in
      let e : node (label_of c) k.trees ≡ node st.label st.trees = st.tree_is in
      let l : st.label ≡ label_of c = cc in
      let ts : k.trees ≡ st.trees = cc in
      let ks : st.kids ≡ kids_of c = one_kids ps one st.kids (kids_of c) st.trees st.kids_are (k.known ∙ ap Some ts) in
      let mine : SameAs s words t (content_of (label_of c) (kids_of c)) =
      subst (SameAs s words t) (λ i. content_of (l i) (ks i)) st.holds in
      let m : Mem t (chains (chain_of s c)) = rw (home_is s words t _ _ k.three mine) at r.1 in
      k.differ t (rw (k.split, none, append-nil pre) at m) (rw (content_is c k.searches) mine)
