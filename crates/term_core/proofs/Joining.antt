-- The one step that adds a term: the exchange that links a pass's own node at the end of a chain. The world keeps its invariant (`Inv` of
-- `Kept`) with one pair more, that of the node's tree, which had no ticket before.
use Rattle.std.proofs.Common.{◌≡◌, ℕ, suc, ◌+◌, ◌-◌, ◌<◌, ◌≤◌, ◌≢◌, ◌==◌, ◌⊎◌, true, cond, List, [], ◌∷◌, ◌++◌}
use Rattle.std.proofs.Common.{length, slice_index, slice_set, Some, None, refl, sym, ap, ◌∙◌, inl, inr}
use Rattle.std.proofs.Common.{append-nil, length-append, length-set, eq-eqb, ne_eqb, arith}
use Rattle.std.proofs.lemmas.Option.{none-some}
use native.Mathlib.Decide.{ℕ_discrete}
use mathlib.Core.Logic.{dite}
use mathlib.Core.Option.{some}
use lib.ListN.{get_elem?}
use Rattle.term_core.specs.declared.Call.{Call}
use Rattle.term_core.specs.declared.Call.TheVariants.{Intern}
use Rattle.term_core.specs.declared.Answer.TheVariants.{Ticket}
use Rattle.term_core.specs.declared.Entry.{Entry}
use Rattle.term_core.specs.declared.Walker.{Walker}
use Rattle.term_core.specs.declared.TheConstants.{CONTENT_WORDS}
use Rattle.term_labels.specs.WordTrees.{Tree}
use Rattle.term_core.specs.Terms.{Pair, tree_at, tree_over, added_by, adds, pairs_of, Has, MayAnswer}
use Rattle.term_core.specs.World.{Shape, IsShape, World, link_of, content_of, entry, ends}
use Rattle.term_core.proofs.Replay.{IsThere, cond_has, eqb_has, one_of, maybe, added_row, tree_more, tree_new, trees_more, added_append}
use Rattle.term_core.proofs.Chains.{Mem, mem_here, mem_cases, Linked, end_of, end_cases, at_other, linked_other, linked_longer, linked_none}
use Rattle.term_core.proofs.Kept.{word, SameAs, home, Stored, Stands, Inv, Change, OnLink, Interns, chain_of, label_of, kids_of}
use Rattle.term_core.proofs.Kept.{own_low, own_free, not_outside, there_stays, back_stays}
use Rattle.term_core.proofs.Keys.{content_is, home_is, tree_of, over, rest_linked, missing}
use Rattle.term_core.proofs.Turns.{combine, pairs_are, calls_are, silent_calls, legal_after}

adds_new : (ps : List Pair) (by : ℕ) (c : Call) (t : ℕ) (x : Tree) → Interns c → tree_over ps (label_of c) (kids_of c) ≡ Some x
    → tree_at ps t ≡ None → adds ps by c (Ticket t) ≡ record { tree = x; ticket = t; by = by } ∷ []
adds_new ps by (Intern l ks) t x i covers vacant = added_row ps by l ks t x covers vacant
adds_new ps by _ t x i covers vacant = absurd i

answers_new : (n : ℕ) (ps : List Pair) (by : ℕ) (c : Call) (t : ℕ) (x : Tree) → Interns c → tree_over ps (label_of c) (kids_of c) ≡ Some x
    → tree_at ps t ≡ None → (Has ps x → ⊥) → added_by by ps < n → MayAnswer n ps by c (Ticket t)
answers_new n ps by (Intern l ks) t x i covers vacant missed room = (x, covers, inr (missed, vacant, room))
answers_new n ps by _ t x i covers vacant missed room = absurd i

module _ {s : Shape} (ok : IsShape s) {w : World} (inv : Inv s w) (p : ℕ) (v : Walker) (at : get_elem? w.passes p ≡ some v) (b : Walker)
    (same_room : b.room ≡ v.room) (st : Stands s w.words w.history inv.chains p b)
    (c : Call) (a : ℕ) (k : OnLink s w.words (pairs_of w.history) inv.chains b c true a 1) (z : slice_index w.words a ≡ 0) where
  abbrev ps : List Pair
  ps = pairs_of w.history

  abbrev C : ℕ
  C = chain_of s c

  abbrev own : ℕ
  own = b.own

  abbrev words' : List ℕ
  words' = slice_set w.words a (suc own)

  abbrev T : Tree
  T = tree_of k.walk

  abbrev pair : Pair
  pair = record { tree = T; ticket = own; by = b.by }

  abbrev h' : List Entry
  h' = w.history ++ entry b c (Ticket own) ∷ []

  abbrev more : ℕ → List ℕ
  more i = cond (i == C) (own ∷ []) []

  abbrev chains' : ℕ → List ℕ
  chains' i = inv.chains i ++ more i

  C_low : C < s.heads
  C_low = ok.1 (label_of c) (kids_of c)

  some_room : 0 < b.room
  some_room = (k.walk.wrote refl).1

  free : (slice_index w.words (link_of s own) ≡ 0) × (tree_at ps own ≡ None)
  free = own_free st some_room

  none_left : k.post ≡ []
  none_left = linked_none s w.words a k.post z (rest_linked k.walk ok inv.shared a k.place_is)

  a_is : a ≡ end_of s C (inv.chains C)
  a_is = rw (k.walk.split, none_left, append-nil k.pre) k.place_is

  -- the link word a is the head's, or one of a node that is there
  a_cases : (a ≡ C) ⊎ ((n : ℕ) × Mem n (inv.chains C) × (a ≡ link_of s n))
  a_cases = rw a_is (end_cases s C (inv.chains C))

  off_link : (t : ℕ) → tree_at ps t ≡ None → link_of s t ≢ a
  off_link t none q = elim a_cases [
    | inl e ↦ omega (arith, C_low)
    | inr g ↦ let h = (inv.shared.back C g.0 g.1).1 in let same : t ≡ g.0 = omega (arith, g.2) in
        none-some h.0 (sym none ∙ ap (tree_at ps) same ∙ h.1)
  ]

  content_same : (t i : ℕ) → i < CONTENT_WORDS → word s words' t i ≡ word s w.words t i
  content_same t i lt = at_other w.words a (link_of s t + 1 + i) (suc own)
      (λ q. elim a_cases [ inl e ↦ omega (arith, C_low) | inr g ↦ omega (arith, g.2) ])

  absent : Has ps T → ⊥
  absent = missing k.walk inv.shared (one_of s.nodes w.history inv.legal) none_left

  pairs_is : pairs_of h' ≡ ps ++ pair ∷ []
  pairs_is = pairs_are inv p v at b same_room st c (Ticket own)
      ∙ ap (λ l. ps ++ l) (adds_new ps b.by c own T (k.walk.wrote refl).0 (over k.walk) free.1)

  new_tree : tree_at (pairs_of h') own ≡ Some T
  new_tree = rw pairs_is (tree_new ps (pair ∷ []) own free.1 ∙ rw (eq-eqb own own refl) refl)

  other_tree : (t : ℕ) → t ≢ own → tree_at ps t ≡ None → tree_at (pairs_of h') t ≡ None
  other_tree t ne e = rw pairs_is (tree_new ps (pair ∷ []) t e ∙ rw (ne_eqb own t (λ q. ne (sym q))) refl)

  pairs_long : length (pairs_of h') ≡ length ps + 1
  pairs_long = rw pairs_is (length-append ps (pair ∷ []))

  added : (q n : ℕ) → added_by q (pair ∷ []) ≡ n → added_by q (pairs_of h') ≡ added_by q ps + n
  added q n e = rw pairs_is (added_append q ps (pair ∷ []) ∙ ap (λ m. added_by q ps + m) e)

  change : Change s p w.words words' w.history h' inv.chains chains'
  change = record {
    said = entry b c (Ticket own) ∷ [];
    says = refl;
    silent = silent_calls inv p v at b same_room st c (Ticket own);
    same_count = λ q ne. omega (arith, added q 0 (rw (ne_eqb b.by q (λ e. ne (sym e ∙ st.number))) refl));
    longer = omega (arith, pairs_long);
    trees = λ t x e. rw pairs_is (tree_more ps (pair ∷ []) t x e);
    none = λ t e o. other_tree t (not_outside st some_room t o) e;
    links = λ t e o. at_other w.words a (link_of s t) (suc own) (off_link t e);
    contents = λ t o i lt. content_same t i lt;
    grows = λ i. (more i, refl);
  }

  a_low : a < length w.words
  a_low = elim a_cases [
    | inl e ↦ omega (arith, inv.shared.long, C_low)
    | inr g ↦ let h = (inv.shared.back C g.0 g.1).1 in omega (arith, inv.shared.long, g.2, (inv.shared.there g.0 h.0 h.1).0.low)
  ]

  ends_apart : (i : ℕ) → i < s.heads → i ≢ C → end_of s i (inv.chains i) ≢ a
  ends_apart i lt ne q = elim (end_cases s i (inv.chains i)) [
    | inl e ↦ elim a_cases [ inl f ↦ ne (sym e ∙ q ∙ f) | inr g ↦ omega (arith, g.2) ]
    | inr m ↦ elim a_cases [
      | inl f ↦ omega (arith, C_low, m.2)
      | inr g ↦ let same : m.0 ≡ g.0 = omega (arith, m.2, g.2) in
          ne (sym (inv.shared.back i m.0 m.1).0 ∙ ap (home s w.words) same ∙ (inv.shared.back C g.0 g.1).0)
    ]
  ]

  rows : (i : ℕ) → i < s.heads → Linked s words' i (chains' i)
  rows i lt = eqb_has (λ l. Linked s words' i (inv.chains i ++ l)) i C (own ∷ []) []
      (λ e. linked_longer s w.words own a i (inv.chains i) (rw e a_is) a_low z free.0 (off_link own free.1) (inv.shared.rows i lt))
      (λ ne. rw (append-nil (inv.chains i))
      (linked_other s w.words a (suc own) i (inv.chains i) z (ends_apart i lt ne) (inv.shared.rows i lt)))

  own_same : SameAs s words' own (content_of (label_of c) (kids_of c))
  own_same i lt = rw (content_is c k.walk.searches) at (content_same own i lt ∙ (k.walk.wrote refl).2 i lt)

  home_own : home s words' own ≡ C
  home_own = home_is s words' own (label_of c) (kids_of c) k.walk.three own_same

  there_own : Stored s words' (pairs_of h') own T × Mem own (chains' (home s words' own))
  there_own = (
    record {
      root = record {
        label = label_of c;
        kids = kids_of c;
        trees = k.walk.trees;
        tree_is = refl;
        kids_are = rw pairs_is (trees_more ps (pair ∷ []) (kids_of c) k.walk.trees k.walk.known);
        three = k.walk.three;
      };
      holds = own_same;
      low = own_low st some_room;
    },
    rw (home_own, eq-eqb C C refl) (mem_here own (inv.chains C) []),
  )

  there : (t : ℕ) (x : Tree) → tree_at (pairs_of h') t ≡ Some x → Stored s words' (pairs_of h') t x × Mem t (chains' (home s words' t))
  there t x e = elim (maybe (tree_at ps t)) [
    | inl none ↦ dite (ℕ_discrete t own)
        (λ q. let f : Some T ≡ Some x = sym new_tree ∙ (rw q at e) in let g : T ≡ x = cc in rw (q, ← g) there_own)
        (λ ne. absurd (none-some x (sym (other_tree t ne none) ∙ e)))
    | inr old ↦ let f : Some old.0 ≡ Some x = sym (change.trees t old.0 old.1) ∙ e in
        there_stays change inv.shared t x (old.1 ∙ f)
  ]

  back : (i t : ℕ) → Mem t (chains' i) → (home s words' t ≡ i) × IsThere (pairs_of h') t
  back i t m = elim (mem_cases t (inv.chains i) (more i) m) [
    | inl o ↦ back_stays change inv.shared i t o
    | inr o ↦ eqb_has (λ l. Mem t l → (home s words' t ≡ i) × IsThere (pairs_of h') t) i C (own ∷ []) []
        (λ e. elim [ inl q ↦ rw (q, e) (home_own, (T, new_tree)) | inr bad ↦ absurd bad ]) (λ ne n. absurd n) o
  ]

  few : (i : ℕ) → length (chains' i) ≤ length (pairs_of h')
  few i = omega (
    arith,
    inv.shared.few i,
    pairs_long,
    length-append (inv.chains i) (more i),
    cond_has (λ l. length l ≤ 1) (i == C) (own ∷ []) [] (omega arith) (omega arith),
  )

  abbrev after : Walker
  after = (ends w.history (record b { own = suc b.own; room = b.room - 1 }) c (Ticket own)).walker

  pub linked_step : Inv s (record { words = words'; passes = slice_set w.passes p after; history = h' })
  linked_step =
      let is : b.by ≡ p = st.number in
      let calls = calls_are inv p v at b same_room st c (Ticket own) in
      combine inv p v at words' h' chains' after change
      (legal_after inv p v at b same_room st c (Ticket own) (answers_new s.nodes ps b.by c own T (k.walk.wrote refl).0 (over k.walk) free.1 absent
      (rw is (omega (arith, st.count, some_room)))))
      (record { rows = rows; there = there; back = back; few = few; long = length-set w.words a (suc own) ∙ inv.shared.long })
      (omega (arith, pairs_long, some_room)) (record {
        owns = record {
          number = st.number;
          low = st.low;
          range = omega (arith, st.range, some_room);
          base = omega (arith, st.base);
        };
        tells = record {
          begins = ([], sym (append-nil h'));
          own_calls = calls;
          all_calls = calls;
          count = omega (arith, st.count, some_room, added p 1 (rw (eq-eqb b.by p is) refl));
        };
        probes = omega (arith, st.probes, pairs_long);
        free = λ n lo hi.
            let f = st.free n (omega arith) (omega (arith, some_room)) in
            (at_other w.words a (link_of s n) (suc own) (off_link n f.1) ∙ f.0, other_tree n (λ q. omega arith) f.1);
        spot = tt;
      })
