-- Trees told by one tree of words are one.
use Rattle.std.proofs.Common.{◌≡◌, ◌==◌, ◌&&◌, true, refl, sym, ap, ap₂, ◌∙◌, eq-eqb, eqb-true}
use Rattle.std.proofs.lemmas.Bool.{and_parts}
use Rattle.std.proofs.lemmas.Option.{same_Some}
use Rattle.term_labels.specs.Trees.{Tree, Trees, node, none, more, tree_count}
use Rattle.term_labels.specs.Codings.{Coding, IsCoding, words_of, all_words_of, is_tree, are_trees}

-- what a proper tree says of its label and its children
pub tree_parts : {L : Type 0} (c : Coding L) (l : L) (xs : Trees L) → is_tree c (node l xs) ≡ true
    → (c.is_label l ≡ true) × (tree_count xs ≡ c.arity l) × (are_trees c xs ≡ true)
tree_parts c l xs p =
    let first = and_parts (c.is_label l) (tree_count xs == c.arity l && are_trees c xs) p in
    let second = and_parts (tree_count xs == c.arity l) (are_trees c xs) first.1 in
    (first.0, eqb-true (tree_count xs) (c.arity l) second.0, second.1)

pub is_tree_of : {L : Type 0} (c : Coding L) (l : L) (xs : Trees L) → c.is_label l ≡ true → tree_count xs ≡ c.arity l → are_trees c xs ≡ true
    → is_tree c (node l xs) ≡ true
is_tree_of c l xs is count are = ap₂ (λ a b. a && b) is (ap₂ (λ a b. a && b) (eq-eqb (tree_count xs) (c.arity l) count) are)

-- labels with one word are one
pub one_label : {L : Type 0} (c : Coding L) → IsCoding c → (l m : L) → c.is_label l ≡ true → c.is_label m ≡ true → c.word l ≡ c.word m → l ≡ m
one_label {L} c is l m p q e = same_Some l m (sym (is l p).0 ∙ (ap c.label_with e ∙ (is m q).0))

mutual
  pub one_tree : {L : Type 0} (c : Coding L) → IsCoding c → (x y : Tree L) → is_tree c x ≡ true → is_tree c y ≡ true → words_of c x ≡ words_of c y → x ≡ y
  one_tree c is (node l xs) (node m ys) p q e =
      let l_p = tree_parts c l xs p in
      let m_p = tree_parts c m ys q in
      let words : c.word l ≡ c.word m = cc in
      let rest : all_words_of c xs ≡ all_words_of c ys = cc in
      ap₂ (λ k ks. node k ks) (one_label c is l m l_p.0 m_p.0 words) (one_trees c is xs ys l_p.2 m_p.2 rest)

  one_trees : {L : Type 0} (c : Coding L) → IsCoding c → (xs ys : Trees L) → are_trees c xs ≡ true → are_trees c ys ≡ true
      → all_words_of c xs ≡ all_words_of c ys → xs ≡ ys
  one_trees c is none none p q e = refl
  one_trees c is none (more y ys) p q e = absurd cc
  one_trees c is (more x xs) none p q e = absurd cc
  one_trees c is (more x xs) (more y ys) p q e =
      let a = and_parts (is_tree c x) (are_trees c xs) p in
      let b = and_parts (is_tree c y) (are_trees c ys) q in
      let first : words_of c x ≡ words_of c y = cc in
      let rest : all_words_of c xs ≡ all_words_of c ys = cc in
      ap₂ (λ k ks. more k ks) (one_tree c is x y a.0 b.0 first) (one_trees c is xs ys a.1 b.1 rest)
