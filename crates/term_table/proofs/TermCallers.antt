-- What callers use of terms over labels of one type: tickets keep their terms, equal tickets are equal terms, and what each answer says of
-- terms.
use Rattle.std.specs.Prelude.{IfSome, IfNone, IfOk, IfErr}
use Rattle.std.proofs.Common.{◌≡◌, ℕ, suc, ◌≤◌, ◌==◌, true, length, List, [], ◌∷◌, Option, Some, None, Result, Ok, Err, refl, sym, ap, ◌∙◌, eq-eqb}
use mathlib.Core.Logic.{◌↔◌}
use Rattle.std.proofs.lemmas.Bool.{and_parts, or_right}
use Rattle.std.proofs.lemmas.Option.{same_Some, none-some}
use Rattle.term_labels.specs.Trees.{Tree, Trees, node, none, more, tree_count, leaf, binary, ternary}
use Rattle.term_labels.specs.Codings.{Coding, IsCoding, words_of, all_words_of, is_tree, are_trees}
use Rattle.term_labels.proofs.Codings as codings
use Rattle.term_core.specs.declared.TheConstants.{MAX_CHILDREN}
use Rattle.term_core.specs.declared.Call.{Call}
use Rattle.term_core.specs.declared.Call.TheVariants.{Intern, Find, Read}
use Rattle.term_core.specs.declared.Answer.{Answer}
use Rattle.term_core.specs.declared.Answer.TheVariants.{Node}
use Rattle.term_core.specs.Terms.{Pair, StartsWith, pairs_of, tree_at, trees_at, tree_over, node_if, has}
use Rattle.term_core.proofs.Replay.{trees_cons, over_trees, one_of}
use Rattle.term_core.proofs.Last.{ticket_tree}
use Rattle.term_table.specs.Passes.{PassState, HasSeen, HasSeenAll, Answered}
use Rattle.term_table.specs.Answers.{intern_answer, sought_answer}
use Rattle.term_table.specs.Trees.{Extends, HasLegalHistory, Learns}
use Rattle.term_table.specs.Terms.{HasTerm, HaveTerms, HasSeenTerm, HasSeenTerms, LacksTerm, IsTermNode}
use Rattle.term_table.specs.declared.table.Interned.{Interned}
use Rattle.term_table.specs.declared.table.TableFull.{TableFull}
use Rattle.term_table.proofs.Public.{has_one}
use Rattle.term_table.proofs.Callers.{extends_self, extends_more, still_of, kept_seen, kept_tree, h, ends_so, pairs_are, answer_seen}
use Rattle.term_table.proofs.Callers.{trees_then, tree_then, tree_now, absent_then}

-- so few children as the words of a node have room for
pub few_of : {L : Type 0} (c : Coding L) (l : L) (n : ℕ) → IsCoding c → c.is_label l ≡ true → n ≡ c.arity l → n ≤ MAX_CHILDREN
few_of c l n is label e = rw e (is l label).1

module _ {L : Type 0} (c : Coding L) (p : PassState) where
  -- terms as trees of words
  words_at : (ts : List ℕ) (xs : Trees L) → HaveTerms c p ts xs → trees_at (pairs_of p.seen) ts ≡ Some (all_words_of c xs)
  words_at [] none h = refl
  words_at (t ∷ ts) (more x xs) h = rw (h.0.tree, words_at ts xs h.1) refl
  words_at _ _ h = absurd h

  proper_all : (ts : List ℕ) (xs : Trees L) → HaveTerms c p ts xs → are_trees c xs ≡ true
  proper_all [] none h = refl
  proper_all (t ∷ ts) (more x xs) h = rw (h.0.proper, proper_all ts xs h.1) refl
  proper_all _ _ h = absurd h

  -- there are as many terms as tickets
  pub count_of : (ts : List ℕ) (xs : Trees L) → HaveTerms c p ts xs → tree_count xs ≡ length ts
  count_of [] none h = refl
  count_of (t ∷ ts) (more x xs) h = ap suc (count_of ts xs h.1)
  count_of _ _ h = absurd h

  pub seen_all : (ts : List ℕ) → HasSeenTerms c p ts → HasSeenAll p ts
  seen_all [] h = tt
  seen_all (t ∷ ts) h = (h.0.has.seen, seen_all ts h.1)

  -- the terms of tickets that were seen
  pub terms_of : (ts : List ℕ) → HasSeenTerms c p ts → (xs : Trees L) × HaveTerms c p ts xs
  terms_of [] h = (none, tt)
  terms_of (t ∷ ts) h = let rest = terms_of ts h.1 in (more h.0.term rest.0, (h.0.has, rest.1))

  pub seen_terms : (ts : List ℕ) (xs : Trees L) → HaveTerms c p ts xs → HasSeenTerms c p ts
  seen_terms [] none h = tt
  seen_terms (t ∷ ts) (more x xs) h = (record { term = x; has = h.0 }, seen_terms ts xs h.1)
  seen_terms _ _ h = absurd h

-- what a pass knew, it knows later
kept : {L : Type 0} {c : Coding L} {p q : PassState} {t : ℕ} {x : Tree L} → StartsWith q.seen p.seen → HasTerm c p t x → HasTerm c q t x
kept {c = c} {p = p} {q = q} {t = t} {x = x} s h = record {
  proper = h.proper;
  seen = kept_seen p.seen q.seen t s h.seen;
  tree = kept_tree p.seen q.seen t (words_of c x) s h.tree;
}

pub still_term : {L : Type 0} {c : Coding L} {p q : PassState} {t : ℕ} {x : Tree L} → Extends p q → HasTerm c p t x → HasTerm c q t x
still_term {p = p} {q = q} e h = kept {p = p} {q = q} e.seen h

pub still_seen_term : {L : Type 0} {c : Coding L} {p q : PassState} {t : ℕ} → Extends p q → HasSeenTerm c p t → HasSeenTerm c q t
still_seen_term e h = record { term = h.term; has = still_term e h.has }

pub still_terms : {L : Type 0} (c : Coding L) {p q : PassState} → Extends p q → (ts : List ℕ) (xs : Trees L) → HaveTerms c p ts xs
    → HaveTerms c q ts xs
still_terms c e [] none h = tt
still_terms c e (t ∷ ts) (more x xs) h = (still_term e h.0, still_terms c e ts xs h.1)
still_terms c e _ _ h = absurd h

pub still_seen_terms : {L : Type 0} (c : Coding L) {p q : PassState} → Extends p q → (ts : List ℕ) → HasSeenTerms c p ts
    → HasSeenTerms c q ts
still_seen_terms c e [] h = tt
still_seen_terms c e (t ∷ ts) h = (still_seen_term e h.0, still_seen_terms c e ts h.1)

-- what another pass knew, it knows since they met
pub learns_term : {L : Type 0} {c : Coding L} {p q : PassState} {t : ℕ} {x : Tree L} → Learns q p → HasTerm c p t x → HasTerm c q t x
learns_term {p = p} {q = q} e h = kept {p = p} {q = q} e.seen h

pub learns_seen_term : {L : Type 0} {c : Coding L} {p q : PassState} {t : ℕ} → Learns q p → HasSeenTerm c p t → HasSeenTerm c q t
learns_seen_term e h = record { term = h.term; has = learns_term e h.has }

-- a ticket whose term is known has been seen
pub term_seen : {L : Type 0} {c : Coding L} {p : PassState} {t : ℕ} {x : Tree L} → HasTerm c p t x → HasSeenTerm c p t
term_seen {x = x} h = record { term = x; has = h }

-- a ticket has one term
pub one_term : {L : Type 0} {c : Coding L} {p : PassState} {t : ℕ} {x y : Tree L} → IsCoding c → HasTerm c p t x → HasTerm c p t y → x ≡ y
one_term {c = c} {x = x} {y = y} is h k =
    codings.one_tree c is x y h.proper k.proper (same_Some (words_of c x) (words_of c y) (sym h.tree ∙ k.tree))

-- two tickets of one pass are equal exactly when their terms are
pub same_terms : {L : Type 0} {c : Coding L} {p : PassState} {t u : ℕ} {x y : Tree L} → IsCoding c → HasLegalHistory p → HasTerm c p t x
    → HasTerm c p u y → (t ≡ u) ↔ (x ≡ y)
same_terms {c = c} {p = p} {t = t} {u = u} {x = x} {y = y} is legal h k = (
  (λ e. one_term is h (rw e k)),
  (λ e. one_of p.nodes p.seen legal t u (words_of c x) h.tree (k.tree ∙ ap (λ z. Some (words_of c z)) (sym e))),
)

-- what the answer of a call says of the term of its label over the terms of its children
module _ {L : Type 0} (c : Coding L) (p q : PassState) (l : L) (ts : List ℕ) (xs : Trees L) (is : c.is_label l ≡ true)
    (arity : length ts ≡ c.arity l) (have : HaveTerms c p ts xs) where
  over : {k : Call} {a : Answer} (d : Answered p k a q) → tree_over (pairs_of (h d)) (c.word l) ts ≡ Some (words_of c (node l xs))
  over d = ap (node_if (c.word l)) (trees_then d ts (all_words_of c xs) (words_at c p ts xs have))

  proper : is_tree c (node l xs) ≡ true
  proper = codings.is_tree_of c l xs is (count_of c p ts xs have ∙ arity) (proper_all c p ts xs have)

  pub interned_term : (r : Result Interned TableFull) → Answered p (Intern (c.word l) ts) (intern_answer r) q
      → IfOk r (λ i. HasTerm c q i.ticket (node l xs))
  interned_term (Ok i) d = record {
    proper = proper;
    seen = answer_seen d i.ticket (has_one i.ticket);
    tree = rw (pairs_are d)
        (ticket_tree p.nodes (pairs_of (h d)) p.by (c.word l) ts i.ticket (words_of c (node l xs)) (ends_so d) (over d));
  }
  interned_term (Err e) d = tt

  pub full_term : (r : Result Interned TableFull) → Answered p (Intern (c.word l) ts) (intern_answer r) q
      → IfErr r (λ e. LacksTerm c q (node l xs))
  full_term (Ok i) d = tt
  full_term (Err e) d = let a = ends_so d in absent_then d a.0 (words_of c (node l xs)) refl a.2 (sym a.1 ∙ over d)

  pub found_term : (r : Option ℕ) → Answered p (Find (c.word l) ts) (sought_answer r) q → IfSome r (λ t. HasTerm c q t (node l xs))
  found_term (Some t) d = let a = ends_so d in record {
    proper = proper;
    seen = answer_seen d t (has_one t);
    tree = tree_now d t (words_of c (node l xs)) (a.2 ∙ sym a.1 ∙ over d);
  }
  found_term None d = tt

  pub missing_term : (r : Option ℕ) → Answered p (Find (c.word l) ts) (sought_answer r) q → IfNone r (LacksTerm c q (node l xs))
  missing_term (Some t) d = tt
  missing_term None d = let a = ends_so d in absent_then d a.0 (words_of c (node l xs)) refl a.2 (sym a.1 ∙ over d)

-- a term's ticket has been seen
pub interned_seen : {L : Type 0} (c : Coding L) (q : PassState) (x : Tree L) (r : Result Interned TableFull)
    → IfOk r (λ i. HasTerm c q i.ticket x)
    → IfOk r (λ i. HasSeenTerm c q i.ticket)
interned_seen c q x (Ok i) h = record { term = x; has = h }
interned_seen c q x (Err e) h = tt

pub found_seen : {L : Type 0} (c : Coding L) (q : PassState) (x : Tree L) (r : Option ℕ) → IfSome r (λ t. HasTerm c q t x)
    → IfSome r (HasSeenTerm c q)
found_seen c q x (Some t) h = record { term = x; has = h }
found_seen c q x None h = tt

-- the children that were read
children_back : {L : Type 0} (c : Coding L) (q : PassState) (ps : List Pair) (ts : List ℕ) (xs : Trees L) → are_trees c xs ≡ true
    → trees_at ps ts ≡ Some (all_words_of c xs) → ((t : ℕ) (x : Tree ℕ) → tree_at ps t ≡ Some x → tree_at (pairs_of q.seen) t ≡ Some x)
    → ((t : ℕ) → has ts t ≡ true → HasSeen q t) → HaveTerms c q ts xs
children_back c q ps [] none p e now seen = tt
children_back c q ps [] (more x xs) p e now seen = absurd cc
children_back c q ps (t ∷ ts) none p e now seen = let g = trees_cons ps t ts none e in let k : none ≡ more g.0 g.1 = g.4 in absurd cc
children_back c q ps (t ∷ ts) (more x xs) p e now seen =
    let g = trees_cons ps t ts (more (words_of c x) (all_words_of c xs)) e in
    let k : more (words_of c x) (all_words_of c xs) ≡ more g.0 g.1 = g.4 in
    let a : g.0 ≡ words_of c x = cc in
    let b : g.1 ≡ all_words_of c xs = cc in
    let parts = and_parts (is_tree c x) (are_trees c xs) p in (
      record {
        proper = parts.0;
        seen = seen t (rw (eq-eqb t t refl) refl);
        tree = now t (words_of c x) (g.2 ∙ ap Some a);
      },
      children_back c q ps ts xs parts.1 (g.3 ∙ ap Some b) now (λ u s. seen u (or_right (t == u) (has ts u) s)),
    )

module _ {L : Type 0} (c : Coding L) (is : IsCoding c) (p q : PassState) (t w : ℕ) (ks : List ℕ) (o : Option L)
    (decoded : o ≡ c.label_with w) (d : Answered p (Read t) (Node w ks) q) where
  -- the label that was read is that of any term that the ticket has
  label_there : (x : Tree L) → HasTerm c p t x → (l : L) × (o ≡ Some l) × (c.word l ≡ w) × IsTermNode c q l ks x
  label_there (node l xs) has =
      let parts = codings.tree_parts c l xs has.proper in
      let a = ends_so d in
      let g = over_trees (pairs_of (h d)) w ks a.0 a.2 in
      let read : words_of c (node l xs) ≡ a.0 =
      same_Some (words_of c (node l xs)) a.0 (sym (tree_then d t (words_of c (node l xs)) has.tree) ∙ a.1) in
      let e : node (c.word l) (all_words_of c xs) ≡ node w g.0 = read ∙ g.2 in
      let word : c.word l ≡ w = cc in
      let rest : all_words_of c xs ≡ g.0 = cc in (
        l,
        decoded ∙ (ap c.label_with (sym word) ∙ (is l parts.0).0),
        word,
        record {
          trees = xs;
          tree = refl;
          have = children_back c q (pairs_of (h d)) ks xs parts.2 (g.1 ∙ ap Some (sym rest)) (tree_now d) (answer_seen d);
        },
      )

  pub label_none : HasSeenTerm c p t → o ≡ None → ⊥
  label_none h e = let r = label_there h.term h.has in none-some r.0 (sym e ∙ r.1)

  module _ (l : L) (some : o ≡ Some l) where
    pub label_word : HasSeenTerm c p t → w ≡ c.word l
    label_word h = let r = label_there h.term h.has in sym r.2 ∙ ap c.word (same_Some r.0 l (sym r.1 ∙ some))

    pub label_node : (x : Tree L) → HasTerm c p t x → IsTermNode c q l ks x
    label_node x h = let r = label_there x h in rw (← same_Some r.0 l (sym r.1 ∙ some)) r.3

    -- as many children as the label's arity
    pub label_arity : HasSeenTerm c p t → length ks ≡ c.arity l
    label_arity h = let n = label_node h.term h.has in
        sym (count_of c q ks n.trees n.have) ∙ (codings.tree_parts c l n.trees (rw n.tree at h.has.proper)).1

    pub label_kids : HasSeenTerm c p t → HasSeenTerms c q ks
    label_kids h = let n = label_node h.term h.has in seen_terms c q ks n.trees n.have

-- what the clause `tree` of an intern or a find says of a term with no children, with two, and with three
module _ {L : Type 0} {c : Coding L} {q : PassState} {l : L} {t : ℕ} where
  pub leaf_term : (p : PassState) → ((xs : Trees L) → HaveTerms c p [] xs → HasTerm c q t (node l xs)) → HasTerm c q t (leaf l)
  leaf_term p f = f none tt

  pub binary_term : {p : PassState} {a b : ℕ} {x y : Tree L} → ((xs : Trees L) → HaveTerms c p (a ∷ b ∷ []) xs → HasTerm c q t (node l xs))
      → HasTerm c p a x → HasTerm c p b y → HasTerm c q t (binary l x y)
  binary_term {x = x} {y = y} f h k = f (more x (more y none)) (h, (k, tt))

  pub ternary_term : {p : PassState} {a b d : ℕ} {x y z : Tree L}
      → ((xs : Trees L) → HaveTerms c p (a ∷ b ∷ d ∷ []) xs → HasTerm c q t (node l xs)) → HasTerm c p a x
      → HasTerm c p b y → HasTerm c p d z → HasTerm c q t (ternary l x y z)
  ternary_term {x = x} {y = y} {z = z} f h j k = f (more x (more y (more z none))) (h, (j, (k, tt)))

-- for a function that interns: `#[tactic(auto, using(term_table::proofs::TermCallers::interning))]`
pub ruleset interning =
    (extends_self, extends_more, still_of, still_term, still_seen_term, term_seen, leaf_term, binary_term, ternary_term)
