-- What every list of items keeps.
use Rattle.std.proofs.Common.{◌≡◌, ℕ, zero, suc, ◌+◌, ◌-◌, ◌*◌, ◌<◌, ◌≤◌, ◌&&◌, ◌⊎◌, Bool, true, false, cond, List, [], ◌∷◌}
use Rattle.std.proofs.Common.{◌++◌, length, slice_index, replicate, Some, None, refl, sym, ap, subst, ◌∙◌, inl, inr, append-nil, arith}
use Rattle.std.proofs.lemmas.List.{length-replicate}
use mathlib.Core.Option.{some, none, some-injective, some-ne-none}
use Rattle.std.proofs.lemmas.Bool.{and_parts}
use lib.ListN.{get_elem?}
use Rattle.term_core.specs.declared.Call.{Call}
use Rattle.term_core.specs.declared.Call.TheVariants.{Intern, Find, Read}
use Rattle.term_core.specs.declared.Entry.{Entry}
use Rattle.term_core.specs.declared.Stage.{Stage}
use Rattle.term_core.specs.declared.Stage.TheVariants.{Idle, Looking, AtLink, AtContent, Writing, Linking, Reading}
use Rattle.term_core.specs.declared.Walker.{Walker}
use Rattle.term_labels.specs.WordTrees.{Trees}
use Rattle.term_core.specs.Terms.{Pair, tree_at, trees_at, added_by, pairs_of, IsLegal, calls_by, occurs}
use Rattle.term_core.specs.World.{Shape, IsShape, World, Item, Choice, begins, looks, world_of, world_after, start, step, does, acts}
use Rattle.term_core.specs.World.{steps, step_start, step_start_at, may_begin, all_occur, at_most_three, first_stage, is_idle, place_at}
use Rattle.term_core.specs.World.{fresh, fresh_from, link_of, word_count}
use Rattle.term_core.specs.Law.{Sees, Lawful}
use Rattle.term_core.specs.Items.{IsReachedLink}
use Rattle.term_core.proofs.Replay.{IsThere, there_from, tree_later, pairs_append, same_from, legal_front}
use Rattle.term_core.proofs.Chains.{mem_left, mem_here, end_cases}
use Rattle.term_core.proofs.Kept.{OnLink, Spot, Stands, at_stage, begun_has, Inv, own_low, rest_silent, Searches, chain_of, label_of, kids_of, rooms}
use Rattle.term_core.proofs.EachStep.{each}

all_known : (rows : List Pair) (h : List Entry) → ((t : ℕ) → occurs h t ≡ true → IsThere rows t) → (ts : List ℕ) → all_occur h ts ≡ true
    → (xs : Trees) × (trees_at rows ts ≡ Some xs)
all_known rows h f [] e = (Rattle.term_labels.specs.WordTrees.none, refl)
all_known rows h f (t ∷ ts) e =
    let q = and_parts (occurs h t) (all_occur h ts) e in
    let x = f t q.0 in
    let xs = all_known rows h f ts q.1 in
    (Rattle.term_labels.specs.WordTrees.more x.0 xs.0, rw (x.1, xs.1) refl)

-- what a pass has seen is legal, and its tickets are there
module _ {s : Shape} {words : List ℕ} {h : List Entry} {chains : ℕ → List ℕ} {p : ℕ} {v : Walker} (st : Stands s words h chains p v)
    (legal : IsLegal s.nodes h) where
  seen_legal : IsLegal s.nodes v.seen
  seen_legal = legal_front s.nodes [] v.seen st.begins.0 (rw st.begins.1 at legal)

  known : (t : ℕ) → occurs v.seen t ≡ true → IsThere (pairs_of h) t
  known t e = let r = there_from s.nodes [] v.seen t seen_legal e in (
    r.0,
    ap (λ ps. tree_at ps t)
        (ap pairs_of st.begins.1 ∙ pairs_append [] v.seen st.begins.0) ∙ tree_later (pairs_of v.seen) st.begins.0 t r.0 r.1,
  )

module _ (s : Shape) (ok : IsShape s) (w : World) (inv : Inv s w) (p : ℕ) (v : Walker) (at : get_elem? w.passes p ≡ some v) where
  st : Stands s w.words w.history inv.chains p v
  st = inv.passes p v at

  abbrev With : Stage → ℕ → Walker
  With g q = record v { stage = g; probes = q }

  with_spot : (g : Stage) (q : ℕ) → q ≤ length (pairs_of w.history) + 1 → Spot s w.words (pairs_of w.history) inv.chains (With g q) g
      → Stands s w.words w.history inv.chains p (With g q)
  with_spot g q few k = at_stage st g q few k

  at_start : (c : Call) → Searches c → at_most_three (kids_of c) && all_occur v.seen (kids_of c) ≡ true
      → OnLink s w.words (pairs_of w.history) inv.chains (With (AtLink c false (chain_of s c)) 0) c false (chain_of s c) 0
  at_start c sc e =
      let q = and_parts (at_most_three (kids_of c)) (all_occur v.seen (kids_of c)) e in
      let xs = all_known (pairs_of w.history) v.seen (known st inv.legal) (kids_of c) q.1 in
      record {
        pre = [];
        post = inv.chains (chain_of s c);
        walk = record {
          searches = sc;
          trees = xs.0;
          known = xs.1;
          three = q.0;
          split = refl;
          differ = λ t m same. m;
          wrote = λ x. absurd (let f : false ≡ true = x in cc);
        };
        place_is = refl;
        probes = omega arith;
      }

  -- a pass that begins a call stands where it should
  begun_call : (c : Call) → may_begin v.seen c ≡ true → Stands s w.words w.history inv.chains p (With (first_stage s c) 0)
  begun_call (Intern l ks) e = with_spot (AtLink (Intern l ks) false (s.chain l ks)) 0 (omega arith) (at_start (Intern l ks) tt e)
  begun_call (Find l ks) e = with_spot (AtLink (Find l ks) false (s.chain l ks)) 0 (omega arith) (at_start (Find l ks) tt e)
  begun_call (Read t) e =
      with_spot (Reading t []) 0 (omega arith) (record {
        there = known st inv.legal t e;
        below = omega arith;
        alike = λ j lt. absurd (omega arith);
        probes = refl;
      })

  call_or : (c : Call) (x : Bool) → may_begin v.seen c ≡ x
      → Stands s w.words w.history inv.chains p (cond x (record v { stage = first_stage s c; probes = 0 }) v)
  call_or c true e = begun_call c e
  call_or c false e = st

  -- so does one that begins what was chosen, or goes on
  pub begun_stands : (choice : Choice) (g : Stage) → Stands s w.words w.history inv.chains p (step_start_at s choice v g)
  begun_stands (begins c) Idle = call_or c (may_begin v.seen c) refl
  begun_stands (looks n) Idle = with_spot (Looking n) v.probes st.probes tt
  begun_stands _ _ = st

  begun_goes : (choice : Choice) → Inv s (acts s w p (step_start s choice v))
  begun_goes choice = busy_or (is_idle b.stage) refl
    where
      b : Walker
      b = step_start s choice v

      busy_or : (x : Bool) → is_idle b.stage ≡ x → Inv s (cond x w (steps s w p b))
      busy_or true e = inv
      busy_or false e =
          let sb = begun_stands choice v.stage in
          each ok inv p v at b (begun_has (λ u. u.room ≡ v.room) s choice v refl (λ _ _ _ _. refl)) sb b.stage sb.spot e

does_keeps : (s : Shape) → IsShape s → (w : World) → Inv s w → (item : Item) (o : mathlib.Core.Option.Option Walker)
    → get_elem? w.passes item.by ≡ o → Inv s (does s w item o)
does_keeps s ok w inv item none e = inv
does_keeps s ok w inv item (some v) e = begun_goes s ok w inv item.by v e item.choice

world_after_keeps : (s : Shape) → IsShape s → (w : World) → Inv s w → (items : List Item) → Inv s (world_after s w items)
world_after_keeps s ok w inv [] = inv
world_after_keeps s ok w inv (i ∷ is) = world_after_keeps s ok (step s w i) (does_keeps s ok w inv i (get_elem? w.passes i.by) refl) is

all_zero : (n c : ℕ) → slice_index (replicate n 0) c ≡ 0
all_zero zero c = refl
all_zero (suc n) zero = refl
all_zero (suc n) (suc c) = all_zero n c

rooms_fresh : (s : Shape) (by n : ℕ) → rooms (fresh_from s by n) ≡ n * s.nodes
rooms_fresh s by zero = sym (Rattle.std.proofs.Common.zero-mul s.nodes)
rooms_fresh s by (suc n) = let r = rooms_fresh s (suc by) n in omega (arith, Rattle.std.proofs.Common.suc-mul n s.nodes)

fresh_at : (s : Shape) (from n k : ℕ) (v : Walker) → get_elem? (fresh_from s from n) k ≡ some v → (k < n) × (v ≡ fresh s (from + k))
fresh_at s from zero k v e = absurd (some-ne-none v (sym e))
fresh_at s from (suc n) zero v e = (
  omega arith,
  sym (some-injective (fresh s from) v e)
      ∙ ap (fresh s) (sym (Rattle.std.proofs.Common.add-zero from)),
)
fresh_at s from (suc n) (suc k) v e = let r = fresh_at s (suc from) n k v e in (omega (arith, r.0), r.1 ∙ ap (fresh s) (omega arith))

starts : (s : Shape) → IsShape s → Inv s (start s)
starts s ok = record {
  chains = λ c. [];
  legal = tt;
  shared = record {
    rows = λ c lt. all_zero (word_count s) c;
    there = λ t x e. absurd (let f : None ≡ Some x = e in cc);
    back = λ c t m. absurd m;
    few = λ c. omega arith;
    long = length-replicate (word_count s) 0;
  };
  total = let r = rooms_fresh s 0 s.workers in omega arith;
  passes = λ by v e.
      let r = fresh_at s 0 s.workers by v e in
      let is : fresh s by ≡ v = ap (fresh s) (sym (Rattle.std.proofs.Common.zero-add by)) ∙ sym r.1 in
      subst (λ (x : Walker). Stands s (start s).words [] (λ c. []) by x) is (record {
        owns = record { number = refl; low = r.0; range = refl; base = omega arith };
        tells = record {
          begins = ([], refl);
          own_calls = refl;
          all_calls = refl;
          count = omega arith;
        };
        probes = omega arith;
        free = λ k lo hi. (all_zero (word_count s) (link_of s k), refl);
        spot = tt;
      });
}

pub keeps_all : (s : Shape) (items : List Item) → IsShape s → Inv s (world_of s items)
keeps_all s items ok = world_after_keeps s ok (start s) (starts s ok) items

module _ (s : Shape) (ok : IsShape s) (w : World) (inv : Inv s w) (p : ℕ) (v : Walker)
    (st : Stands s w.words w.history inv.chains p v) where
  -- the link after the nodes that a walk has passed
  pub reached : {c : Call} {wr : Bool} {a n : ℕ} → OnLink s w.words (pairs_of w.history) inv.chains v c wr a n → IsReachedLink s w a
  reached {c} k = rw k.place_is (elim (end_cases s (chain_of s c) k.pre) [
    | inl q ↦ inl (omega (arith, ok.1 (label_of c) (kids_of c)))
    | inr g ↦ let t = (inv.shared.back (chain_of s c) g.0 (rw k.walk.split (mem_left g.0 k.pre k.post g.1))).1 in
        inr (g.0, t.0, t.1, g.2)
  ])

  link_below : (a : ℕ) → IsReachedLink s w a → a < word_count s
  link_below a (inl l) = omega arith
  link_below a (inr g) = omega (arith, g.3, (inv.shared.there g.0 g.1 g.2).0.low)

  within : (g : Stage) → Spot s w.words (pairs_of w.history) inv.chains v g → place_at s v g < word_count s
  within (AtLink c wr a) k = link_below a (reached k)
  within (AtContent c wr n i) k =
      let t = (inv.shared.back (chain_of s c) n (rw k.walk.split (mem_here n k.pre k.post))).1 in
      omega (arith, k.below, (inv.shared.there n t.0 t.1).0.low)
  within (Writing c a i) k = omega (arith, own_low st k.room, k.below)
  within (Linking c a) k = link_below a (reached k)
  within (Reading t xs) k = omega (arith, (inv.shared.there t k.there.0 k.there.1).0.low, k.below)
  within _ k = omega (arith, ok.0)

  -- what the pass has not seen adds none of its own pairs
  count_same : added_by v.by (pairs_of w.history) ≡ added_by v.by (pairs_of v.seen)
  count_same = ap (λ (h : List Entry). added_by v.by (pairs_of h)) st.begins.1
      ∙ (ap (added_by v.by) (pairs_append [] v.seen st.begins.0)
      ∙ Rattle.term_core.proofs.Replay.added_silent v.by (pairs_of v.seen) st.begins.0
      (ap (λ (n : ℕ). calls_by n st.begins.0) st.number ∙ rest_silent st))

  pub sees_all : Sees s w.history v
  sees_all = record {
    begins = st.begins;
    legal = seen_legal st inv.legal;
    own = rw st.number st.own_calls;
    all = rw st.number st.all_calls;
    same = λ t u p q. ((λ e. ap (tree_at (pairs_of v.seen)) e), (λ e. same_from s.nodes v.seen (seen_legal st inv.legal) t u p q e));
    count = rw st.number st.count;
    seen_count = rw (← count_same, st.number) st.count;
    low = λ t o. let h = known st inv.legal t o in (inv.shared.there t h.0 h.1).0.low;
    probes = st.probes;
    pairs = omega (arith, inv.total);
    own_low = own_low st;
    within = within v.stage st.spot;
  }

pub lawful : (s : Shape) (items : List Item) → IsShape s → Lawful s (world_of s items)
lawful s items ok = let inv = keeps_all s items ok in record {
  legal = inv.legal;
  sees = λ by v e. let st = inv.passes by v e in (st.number, sees_all s ok (world_of s items) inv by v st);
}
