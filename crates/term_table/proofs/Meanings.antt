-- What tickets mean lasts, is learnt at a meeting, is made by a label, and is one where tickets are.
use Rattle.std.specs.Prelude.{IsTrue, ◌↔◌, slice_index, get_or}
use Rattle.std.proofs.Common.{◌≡◌, ◌∙◌, ℕ, zero, suc, ◌<◌, Bool, true, List, [], ◌∷◌, ◌++◌, length, refl, sym, ap, ap₂, arith}
use Rattle.std.proofs.lemmas.Bool.{and_parts}
use Rattle.term_labels.specs.Trees.{Tree, Trees, node, none, more, tree_count}
use Rattle.term_labels.specs.Codings.{IsCoding, is_tree, are_trees}
use Rattle.term_labels.proofs.Codings.{tree_parts}
use Rattle.term_table.specs.Passes.{PassState}
use Rattle.term_table.specs.Trees.{Extends, Learns, HasLegalHistory}
use Rattle.term_table.specs.Terms.{HasTerm, HaveTerms, HasSeenTerm, HasSeenTerms, IsTermNode}
use Rattle.term_table.proofs.TermCallers.{still_term, still_terms, learns_term, term_seen, seen_terms, terms_of, one_term, same_terms}
use Rattle.term_table.specs.Meanings.{Algebra, value_of, values_of, Means, AllMean, ValuesSeparateTerms}

module _ {L V E : Type 0} {a : Algebra L V E} {p q : PassState} where
  -- what a pass knew, it knows later
  pub still_means : {t : ℕ} {f : E → V} → Extends p q → Means a p t f → Means a q t f
  still_means {t} {f} e h = record { term = h.term; has = still_term e h.has; value = h.value }

  pub still_all_mean : {ts : List ℕ} {fs : E → List V} → Extends p q → AllMean a p ts fs → AllMean a q ts fs
  still_all_mean {ts} {fs} e h = record { terms = h.terms; have = still_terms a.coding e ts h.terms h.have; values = h.values }

  -- what another pass knew, it knows since they met
  pub learns_means : {t : ℕ} {f : E → V} → Learns q p → Means a p t f → Means a q t f
  learns_means {t} {f} e h = record { term = h.term; has = learns_term e h.has; value = h.value }

module _ {L V E : Type 0} {a : Algebra L V E} {p : PassState} where
  -- a ticket whose meaning is known has been seen
  pub means_seen : {t : ℕ} {f : E → V} → Means a p t f → HasSeenTerm a.coding p t
  means_seen {t} {f} h = term_seen h.has

  pub all_mean_seen : {ts : List ℕ} {fs : E → List V} → AllMean a p ts fs → HasSeenTerms a.coding p ts
  all_mean_seen {ts} {fs} h = seen_terms a.coding p ts h.terms h.have

  -- and a ticket that was seen means something
  pub seen_means : {t : ℕ} → HasSeenTerm a.coding p t → (f : E → V) × Means a p t f
  seen_means {t} h = (value_of a h.term, record { term = h.term; has = h.has; value = λ e. refl })

  pub all_seen_mean : (ts : List ℕ) → HasSeenTerms a.coding p ts → (fs : E → List V) × AllMean a p ts fs
  all_seen_mean ts h = let all = terms_of a.coding p ts h in (values_of a all.0, record { terms = all.0; have = all.1; values = λ e. refl })

  -- values that are the same in each environment are as good
  pub means_as : {t : ℕ} {f g : E → V} → ((e : E) → f e ≡ g e) → Means a p t f → Means a p t g
  means_as {t} {f} {g} same h = record { term = h.term; has = h.has; value = λ e. h.value e ∙ same e }

  pub all_mean_as : {ts : List ℕ} {fs gs : E → List V} → ((e : E) → fs e ≡ gs e) → AllMean a p ts fs → AllMean a p ts gs
  all_mean_as {ts} {fs} {gs} same h = record { terms = h.terms; have = h.have; values = λ e. h.values e ∙ same e }

  -- no tickets, one more in front, and one more at the end
  pub none_mean : AllMean a p [] (λ e. [])
  none_mean = record { terms = none; have = tt; values = λ e. refl }

  pub first_means : {t : ℕ} {ts : List ℕ} {f : E → V} {fs : E → List V} → Means a p t f → AllMean a p ts fs
      → AllMean a p (t ∷ ts) (λ e. f e ∷ fs e)
  first_means {t} {ts} {f} {fs} h k =
      record { terms = more h.term k.terms; have = (h.has, k.have); values = λ e. ap₂ (λ v vs. v ∷ vs) (h.value e) (k.values e) }

  pub last_means : {t : ℕ} {ts : List ℕ} {f : E → V} {fs : E → List V} → AllMean a p ts fs → Means a p t f
      → AllMean a p (ts ++ t ∷ []) (λ e. fs e ++ f e ∷ [])
  last_means {t} {ts} {f} {fs} k h =
      let all = go ts k.terms k.have in
      record { terms = all.0; have = all.1; values = λ e. all.2 e ∙ ap (λ vs. vs ++ f e ∷ []) (k.values e) }
    where
      go : (us : List ℕ) (xs : Trees L) → HaveTerms a.coding p us xs
          → (ys : Trees L) × HaveTerms a.coding p (us ++ t ∷ []) ys × ((e : E) → values_of a ys e ≡ values_of a xs e ++ f e ∷ [])
      go [] none have = (more h.term none, (h.has, tt), λ e. ap (λ v. v ∷ []) (h.value e))
      go (u ∷ us) (more x xs) have =
          let rest = go us xs have.1 in
          (more x rest.0, (have.0, rest.1), λ e. ap (λ vs. value_of a x e ∷ vs) (rest.2 e))
      go _ _ have = absurd have

  -- the ticket at a place means the value at that place; d is any value
  pub means_at : {ts : List ℕ} {fs : E → List V} (d : V) (k : ℕ) → AllMean a p ts fs → k < length ts
      → Means a p (slice_index ts k) (λ e. get_or (fs e) k d)
  means_at {ts} {fs} d k h lt = means_as (λ e. ap (λ vs. get_or vs k d) (h.values e)) (go ts h.terms k h.have lt)
    where
      go : (us : List ℕ) (xs : Trees L) (k : ℕ) → HaveTerms a.coding p us xs → k < length us
          → Means a p (slice_index us k) (λ e. get_or (values_of a xs e) k d)
      go [] xs k have lt = absurd (omega (arith, lt))
      go (u ∷ us) none k have lt = absurd have
      go (u ∷ us) (more x xs) zero have lt = record { term = x; has = have.0; value = λ e. refl }
      go (u ∷ us) (more x xs) (suc k) have lt = go us xs k have.1 (omega (arith, lt))

  -- there are as many values as tickets
  pub all_mean_length : {ts : List ℕ} {fs : E → List V} → AllMean a p ts fs → (e : E) → length (fs e) ≡ length ts
  all_mean_length {ts} {fs} h e = ap length (sym (h.values e)) ∙ go ts h.terms h.have
    where
      go : (us : List ℕ) (xs : Trees L) → HaveTerms a.coding p us xs → length (values_of a xs e) ≡ length us
      go [] none have = refl
      go (u ∷ us) (more x xs) have = ap suc (go us xs have.1)
      go _ _ have = absurd have

-- two values, where d is any value
pub two_values : {V : Type 0} (d : V) (vs : List V) → length vs ≡ 2 → get_or vs 0 d ∷ get_or vs 1 d ∷ [] ≡ vs
two_values d (v ∷ []) two = absurd (omega (arith, two))
two_values d (v ∷ w ∷ []) two = refl
two_values d _ two = absurd (omega (arith, two))

module _ {L V E : Type 0} {a : Algebra L V E} {p q : PassState} {l : L} {ts : List ℕ} {t : ℕ} where
  -- what the clause `tree` of an intern or a find says of tickets with these meanings
  pub interned_means : {fs : E → List V} → ((xs : Trees L) → HaveTerms a.coding p ts xs → HasTerm a.coding q t (node l xs))
      → AllMean a p ts fs → Means a q t (λ e. a.made l e (fs e))
  interned_means {fs} tree h = record { term = node l h.terms; has = tree h.terms h.have; value = λ e. ap (a.made l e) (h.values e) }

  -- what the clause `tree` of a read says of a ticket with this meaning
  pub read_means : {f : E → V} → ((x : Tree L) → HasTerm a.coding p t x → IsTermNode a.coding q l ts x) → Means a p t f
      → (fs : E → List V) × AllMean a q ts fs × ((e : E) → a.made l e (fs e) ≡ f e)
  read_means {f} tree h =
      let n = tree h.term h.has in
      let all : AllMean a q ts (values_of a n.trees) = record { terms = n.trees; have = n.have; values = λ e. refl } in
      (values_of a n.trees, all, λ e. ap (λ x. value_of a x e) (sym n.tree) ∙ h.value e)

module _ {L V E : Type 0} {a : Algebra L V E} {p : PassState} {t u : ℕ} {f g : E → V} where
  -- what `same_term` says of tickets with these meanings
  pub same_means : {same : Bool} → ((x y : Tree L) → HasTerm a.coding p t x → HasTerm a.coding p u y → IsTrue same ↔ (x ≡ y))
      → Means a p t f → Means a p u g → IsTrue same → (e : E) → f e ≡ g e
  same_means {same} say h k is e = sym (h.value e) ∙ (ap (λ x. value_of a x e) ((say h.term k.term h.has k.has).0 is) ∙ k.value e)

-- equal tickets mean the same
pub equal_mean : {L V E : Type 0} {a : Algebra L V E} {p : PassState} {t : ℕ} {f g : E → V} → IsCoding a.coding → Means a p t f
    → Means a p t g → (e : E) → f e ≡ g e
equal_mean {L} {V} {E} {a} {p} {t} {f} {g} is h k e = sym (h.value e) ∙ (ap (λ x. value_of a x e) (one_term is h.has k.has) ∙ k.value e)

same_parts : {V : Type 0} (v w : V) (vs ws : List V) → v ∷ vs ≡ w ∷ ws → (v ≡ w) × (vs ≡ ws)
same_parts v w vs ws e = (cc, cc)

-- where values separate terms, terms with one value are one, and so are their tickets
module _ {L V E : Type 0} (a : Algebra L V E) (separate : ValuesSeparateTerms a) where
  count_is : (xs : Trees L) (e : E) → length (values_of a xs e) ≡ tree_count xs
  count_is none e = refl
  count_is (more x xs) e = ap suc (count_is xs e)

  mutual
    one_value : (x y : Tree L) → is_tree a.coding x ≡ true → is_tree a.coding y ≡ true → ((e : E) → value_of a x e ≡ value_of a y e) → x ≡ y
    one_value (node l xs) (node m ys) p q same =
        let left = tree_parts a.coding l xs p in
        let right = tree_parts a.coding m ys q in
        let parts = separate l m (values_of a xs) (values_of a ys) left.0 right.0 (λ e. count_is xs e ∙ left.1) (λ e. count_is ys e ∙ right.1) same in
        ap₂ (λ k ks. node k ks) parts.0
        (one_values xs ys left.2 right.2 (left.1 ∙ ap a.coding.arity parts.0 ∙ sym right.1) parts.1)

    one_values : (xs ys : Trees L) → are_trees a.coding xs ≡ true → are_trees a.coding ys ≡ true → tree_count xs ≡ tree_count ys
        → ((e : E) → values_of a xs e ≡ values_of a ys e) → xs ≡ ys
    one_values none none p q count same = refl
    one_values none (more y ys) p q count same = absurd (omega (arith, count))
    one_values (more x xs) none p q count same = absurd (omega (arith, count))
    one_values (more x xs) (more y ys) p q count same =
        let left = and_parts (is_tree a.coding x) (are_trees a.coding xs) p in
        let right = and_parts (is_tree a.coding y) (are_trees a.coding ys) q in
        let head : (e : E) → value_of a x e ≡ value_of a y e = λ e. (same_parts _ _ _ _ (same e)).0 in
        let tail : (e : E) → values_of a xs e ≡ values_of a ys e = λ e. (same_parts _ _ _ _ (same e)).1 in
        ap₂ (λ k ks. more k ks) (one_value x y left.0 right.0 head) (one_values xs ys left.1 right.1 (omega (arith, count)) tail)

pub one_ticket : {L V E : Type 0} {a : Algebra L V E} {p : PassState} {t u : ℕ} {f g : E → V} → IsCoding a.coding → ValuesSeparateTerms a
    → HasLegalHistory p → Means a p t f → Means a p u g → ((e : E) → f e ≡ g e) → t ≡ u
one_ticket {L} {V} {E} {a} {p} {t} {u} {f} {g} is separate legal h k same =
    let values : (e : E) → value_of a h.term e ≡ value_of a k.term e = λ e. h.value e ∙ (same e ∙ sym (k.value e)) in
    (same_terms is legal h.has k.has).1 (one_value a separate h.term k.term h.has.proper k.has.proper values)

-- for a function that makes terms: `#[tactic(auto, using(term_table::proofs::Meanings::meanings))]`
pub ruleset meanings = (still_means, still_all_mean, means_seen, all_mean_seen, none_mean, first_means, interned_means)
