-- Each step of a pass that is at work keeps what every list of items keeps.
use Rattle.std.proofs.Common.{◌≡◌, ℕ, zero, suc, ◌+◌, ◌<◌, ◌≤◌, ◌≢◌, ◌==◌, ◌⊎◌, Bool, true, false, cond, List, [], ◌∷◌, ◌++◌}
use Rattle.std.proofs.Common.{length, take, drop, ◌-◌, slice_index, slice_set, Some, refl, sym, ap, ◌∙◌, inl, inr}
use Rattle.std.proofs.Common.{append_assoc, append-nil, length-append, length-set, ne_eqb, max, arith}
use Rattle.std.proofs.lemmas.List.{get_or_append_left, get_or_push, take-append-drop}
use Rattle.std.proofs.lemmas.Option.{none-some}
use native.Mathlib.Decide.{ℕ_discrete}
use mathlib.Core.Logic.{dite}
use mathlib.Core.Option.{some}
use lib.ListN.{get_elem?}
use prog.Atomic.{either}
use Rattle.term_core.specs.declared.Call.{Call}
use Rattle.term_core.specs.declared.Call.TheVariants.{Intern, Find, Read}
use Rattle.term_core.specs.declared.Answer.{Answer}
use Rattle.term_core.specs.declared.Answer.TheVariants.{Full, Missing}
use Rattle.term_core.specs.declared.Entry.{Entry}
use Rattle.term_core.specs.declared.Stage.{Stage}
use Rattle.term_core.specs.declared.Stage.TheVariants.{Idle, Looking, AtLink, AtContent, Writing, Linking, Reading}
use Rattle.term_core.specs.declared.Walker.{Walker}
use Rattle.term_core.specs.declared.TheConstants.{CONTENT_WORDS, LAST_WORD}
use Rattle.term_labels.specs.WordTrees.{Tree}
use Rattle.term_core.specs.Terms.{Pair, tree_at, tree_over, node_if, adds, pairs_of, MayAnswer, calls_by}
use Rattle.term_core.specs.World.{Shape, IsShape, World, Turn, is_idle, place_at, becomes_at, turn_at, goes, ends, follows, turn_without_node}
use Rattle.term_core.specs.World.{turn_of_exchange, content, hit, answer_of, kids_in, kid_in, link_of}
use Rattle.term_core.proofs.Replay.{IsThere, eqb_has, one_of, past, calls_append}
use Rattle.term_core.proofs.Chains.{mem_left, mem_here, mem_cases, end_snoc, linked_none, linked_some, linked_frame, at_same, at_other}
use Rattle.term_core.proofs.Kept.{word, SameAs, Alike, alike_more, OnLink, OnContent, OnWriting, OnReading, Spot, Stands, Inv, Outside}
use Rattle.term_core.proofs.Kept.{stands_at, at_stage, own_low, own_free, not_outside, rest_silent, Searches, Interns, chain_of, label_of, kids_of}
use Rattle.term_core.proofs.Keys.{label_is, kids_is, matched, missing, over, tree_of, rest_linked}
use Rattle.term_core.proofs.Turns.{calm, quiet, ended}
use Rattle.term_core.proofs.Joining.{linked_step}

-- what a match and a miss answer
adds_hit : (ps : List Pair) (by : ℕ) (c : Call) (k : ℕ) (x : Tree) → Searches c → tree_at ps k ≡ Some x → adds ps by c (hit c k) ≡ []
adds_hit ps by (Intern l ks) k x h e = rw e refl
adds_hit ps by (Find l ks) k x h e = refl
adds_hit ps by (Read t) k x h e = absurd h

answers_hit : (n : ℕ) (ps : List Pair) (by : ℕ) (c : Call) (k : ℕ) (x : Tree) → Searches c → tree_over ps (label_of c) (kids_of c) ≡ Some x
    → tree_at ps k ≡ Some x → MayAnswer n ps by c (hit c k)
answers_hit n ps by (Intern l ks) k x h o e = (x, o, inl e)
answers_hit n ps by (Find l ks) k x h o e = (x, o, e)
answers_hit n ps by (Read t) k x h o e = absurd h

front_nil : (xs ys : List Entry) → xs ++ ys ≡ [] → xs ≡ []
front_nil [] ys e = refl
front_nil (x ∷ xs) ys e = absurd cc

module _ {s : Shape} (ok : IsShape s) {w : World} (inv : Inv s w) (p : ℕ) (v : Walker) (at : get_elem? w.passes p ≡ some v) (b : Walker)
    (same_room : b.room ≡ v.room) (st : Stands s w.words w.history inv.chains p b) where
  abbrev ps : List Pair
  ps = pairs_of w.history

  abbrev chains : ℕ → List ℕ
  chains = inv.chains

  -- the world after the step, which makes x of the word a
  abbrev Next : ℕ → ℕ → Turn → Type 0
  Next a x t = Inv s (record { words = slice_set w.words a x; passes = slice_set w.passes p t.walker; history = w.history ++ t.said })

  -- the same after a load
  abbrev Loads : ℕ → Turn → Type 0
  Loads a = Next a (slice_index w.words a)

  move : (a : ℕ) (g : Stage) (q : ℕ) → q ≤ length ps + 1 → Spot s w.words ps chains (record b { stage = g; probes = q }) g
      → Loads a (goes (record b { probes = q }) g)
  move a g q few k = quiet inv p v at a (record b { stage = g; probes = q }) same_room (at_stage st g q few k)

  finish : (a : ℕ) (c : Call) (ans : Answer) (q : ℕ) → q ≤ length ps + 1 → adds ps b.by c ans ≡ [] → MayAnswer s.nodes ps b.by c ans
      → Loads a (ends w.history (record b { probes = q }) c ans)
  finish a c ans q = ended inv p v at b same_room st c ans a q

  few : {c : Call} {wr : Bool} {a : ℕ} → OnLink s w.words ps chains b c wr a 0 → suc b.probes ≤ length ps + 1
  few {c} k = omega (arith, k.probes, inv.shared.few (chain_of s c), ap length k.walk.split, length-append k.pre k.post)

  -- the walk after the load of its link
  later : {c : Call} {wr : Bool} {a : ℕ} {g : Stage} → OnLink s w.words ps chains b c wr a 0
      → OnLink s w.words ps chains (record b { stage = g; probes = suc b.probes }) c wr a 1
  later k = record { pre = k.pre; post = k.post; walk = k.walk; place_is = k.place_is; probes = omega (arith, k.probes) }

  -- the end of a chain
  none_next : (c : Call) (wr : Bool) (a : ℕ) (k : OnLink s w.words ps chains b c wr a 0) → k.post ≡ []
      → Loads a (turn_without_node w.history (record b { probes = suc b.probes }) c wr a)
  none_next (Intern l ks) wr a k e = eqb_has (Loads a) b.room 0 _ _
      (λ no_room. finish a (Intern l ks) Full (suc b.probes) (few k) refl (
        tree_of k.walk,
        over k.walk,
        missing k.walk inv.shared (one_of s.nodes w.history inv.legal) e,
        rw st.number (omega (arith, st.count)),
      ))
      (λ some_room. written wr k (omega arith))
    where
      written : (wr : Bool) → OnLink s w.words ps chains b (Intern l ks) wr a 0 → 0 < b.room
          → Loads a (goes (record b { probes = suc b.probes }) (cond wr (Linking (Intern l ks) a) (Writing (Intern l ks) a 0)))
      written true k r = move a (Linking (Intern l ks) a) (suc b.probes) (few k) (later k)
      written false k r = move a (Writing (Intern l ks) a 0) (suc b.probes) (few k)
          (record { link = later k; interns = tt; room = r; below = omega arith; alike = λ j lt. absurd (omega arith) })
  none_next (Find l ks) wr a k e = finish a (Find l ks) Missing (suc b.probes) (few k) refl
      (tree_of k.walk, over k.walk, missing k.walk inv.shared (one_of s.nodes w.history inv.legal) e)
  none_next (Read t) wr a k e = absurd k.walk.searches

  -- at the next node of a chain
  enter : {c : Call} {wr : Bool} {a l : ℕ} (k : OnLink s w.words ps chains b c wr a l) (q m : ℕ) → slice_index w.words a ≡ suc m
      → q ≤ length k.pre + 1 → OnContent s w.words ps chains (record b { stage = AtContent c wr m 0; probes = q }) c wr m 0
  enter {a = a} k q m e few = let r = linked_some s w.words a m k.post e (rest_linked k.walk ok inv.shared a k.place_is) in record {
    pre = k.pre;
    post = r.0;
    walk = rw r.1 at k.walk;
    below = omega arith;
    alike = λ j lt. absurd (omega arith);
    probes = few;
  }

  follow : (c : Call) (wr : Bool) (a n : ℕ) → slice_index w.words a ≡ n → OnLink s w.words ps chains b c wr a 0
      → Loads a (follows w.history (record b { probes = suc b.probes }) c wr a n)
  follow c wr a zero e k = none_next c wr a k (linked_none s w.words a k.post e (rest_linked k.walk ok inv.shared a k.place_is))
  follow c wr a (suc m) e k = move a (AtContent c wr m 0) (suc b.probes) (few k) (enter k (suc b.probes) m e (omega (arith, k.probes)))

  compare : (c : Call) (wr : Bool) (k i : ℕ) → OnContent s w.words ps chains b c wr k i
      → Loads (link_of s k + 1 + i) (cond (word s w.words k i == slice_index (content c) i)
      (cond (i == LAST_WORD) (ends w.history b c (hit c k)) (goes b (AtContent c wr k (suc i)))) (goes b (AtLink c wr (link_of s k))))
  compare c wr k i o = eqb_has (Loads a) (word s w.words k i) (slice_index (content c) i) _ _
      (λ e. let alike = alike_more s w.words k i (content c) o.alike e in eqb_has (Loads a) i LAST_WORD _ _
      (λ last. let m = matched o.walk inv.shared k (rw o.walk.split (mem_here k o.pre o.post)) (λ j lt. alike j (omega arith)) in
      finish a c (hit c k) b.probes st.probes (adds_hit ps b.by c k _ o.walk.searches m)
      (answers_hit s.nodes ps b.by c k _ o.walk.searches (over o.walk) m))
      (λ more. move a (AtContent c wr k (suc i)) b.probes st.probes (record {
        pre = o.pre;
        post = o.post;
        walk = o.walk;
        below = omega (arith, o.below);
        alike = alike;
        probes = o.probes;
      })))
      (λ ne. move a (AtLink c wr (link_of s k)) b.probes st.probes (record {
        pre = o.pre ++ k ∷ [];
        post = o.post;
        walk = record {
          searches = o.walk.searches;
          trees = o.walk.trees;
          known = o.walk.known;
          three = o.walk.three;
          split = o.walk.split ∙ sym (append_assoc o.pre (k ∷ []) o.post);
          differ = λ t m same. elim (mem_cases t o.pre (k ∷ []) m) [
            | inl x ↦ o.walk.differ t x same
            | inr x ↦ elim x [ inl q ↦ ne (rw q at (same i o.below)) | inr bad ↦ bad ]
          ];
          wrote = o.walk.wrote;
        };
        place_is = sym (end_snoc s (chain_of s c) o.pre k);
        probes = omega (arith, o.probes, length-append o.pre (k ∷ []));
      }))
    where
      a : ℕ
      a = link_of s k + 1 + i

  -- a content word of one's own node is stored
  module _ (c : Call) (a i : ℕ) (k : OnWriting s w.words ps chains b c a i) where
    abbrev here : ℕ
    here = link_of s b.own + 1 + i

    abbrev words' : List ℕ
    words' = slice_set w.words here (slice_index (content c) i)

    not_own : (t : ℕ) → IsThere ps t → t ≢ b.own
    not_own t h q = none-some h.0 (sym (own_free st k.room).1 ∙ rw q at h.1)

    same_link : (t : ℕ) → slice_index words' (link_of s t) ≡ slice_index w.words (link_of s t)
    same_link t = at_other w.words here (link_of s t) _ (λ q. omega (arith, k.below))

    elsewhere : (t j : ℕ) → j < CONTENT_WORDS → t ≢ b.own → word s words' t j ≡ word s w.words t j
    elsewhere t j lt ne = at_other w.words here (link_of s t + 1 + j) _ (λ q. ne (omega (arith, k.below)))

    contents : (t : ℕ) → IsThere ps t ⊎ Outside s p t → (j : ℕ) → j < CONTENT_WORDS → word s words' t j ≡ word s w.words t j
    contents t (inl h) j lt = elsewhere t j lt (not_own t h)
    contents t (inr o) j lt = elsewhere t j lt (not_outside st k.room t o)

    alike' : Alike s words' b.own (suc i) (content c)
    alike' = alike_more s words' b.own i (content c)
        (λ j lt. at_other w.words here (link_of s b.own + 1 + j) _ (λ q. omega arith) ∙ k.alike j lt)
        (at_same w.words here _ (omega (arith, inv.shared.long, own_low st k.room, k.below)))

    -- the walk, also where the node has all its words
    on : (g : Stage) (x : Bool) → (x ≡ true → Interns c × (0 < b.room) × SameAs s words' b.own (content c))
        → OnLink s words' ps chains (record b { stage = g }) c x a 1
    on g x wrote = record {
      pre = k.pre;
      post = k.post;
      walk = record {
        searches = k.walk.searches;
        trees = k.walk.trees;
        known = k.walk.known;
        three = k.walk.three;
        split = k.walk.split;
        differ = λ t m same. k.walk.differ t m (λ j lt.
            sym (contents t (inl (inv.shared.back (chain_of s c) t (rw k.walk.split (mem_left t k.pre k.post m))).1) j lt) ∙ same j lt);
        wrote = wrote;
      };
      place_is = k.place_is;
      probes = k.probes;
    }

    wrote_step : Next here (slice_index (content c) i) (goes b (cond (i == LAST_WORD) (Linking c a) (Writing c a (suc i))))
    wrote_step = rw (append-nil w.history) (calm inv p v at words' w.history [] (record b { stage = _ }) (sym (append-nil w.history))
        (λ q ne. refl) refl inv.legal same_link contents
        (λ n lt. linked_frame s w.words here _ n (chains n) (λ q. omega arith) (λ t q. omega (arith, k.below)) (inv.shared.rows n lt))
        (length-set w.words here _) same_room (stands_at st words' _ b.probes st.probes (λ n lo hi. same_link n)
        (eqb_has (λ g. Spot s words' ps chains (record b { stage = g }) g) i LAST_WORD _ _
        (λ last. on _ true (λ _. (k.interns, k.room, (λ j lt. alike' j (omega arith)))))
        (λ more. record {
          link = on _ false (λ q. absurd (let f : false ≡ true = q in cc));
          interns = k.interns;
          room = k.room;
          below = omega (arith, k.below);
          alike = alike';
        }))))

  -- the exchange
  exchange : (c : Call) (a n : ℕ) → slice_index w.words a ≡ n → (k : OnLink s w.words ps chains b c true a 1)
      → Next a (either (n == 0) (suc b.own) n) (turn_of_exchange w.history b c a n)
  exchange c a zero e k = linked_step ok inv p v at b same_room st c a k e
  exchange c a (suc m) e k = rw (ne_eqb (suc m) 0 (λ q. absurd (omega arith)), ← e)
      (move a (AtContent c true m 0) b.probes st.probes (enter k b.probes m e k.probes))

  read_on : (t n : ℕ) (xs : List ℕ) → n ≡ word s w.words t (length xs) → OnReading s w.words ps chains b t xs
      → Loads (link_of s t + 1 + length xs)
      (cond (length xs == LAST_WORD) (ends w.history b (Read t) (answer_of (xs ++ n ∷ []))) (goes b (Reading t (xs ++ n ∷ []))))
  read_on t n xs e k = eqb_has (Loads (link_of s t + 1 + length xs)) (length xs) LAST_WORD _ _
      (λ last. finish _ (Read t) _ b.probes st.probes refl (answers last))
      (λ more. move _ (Reading t (xs ++ n ∷ [])) b.probes st.probes (record {
        there = k.there;
        below = omega (arith, k.below, length-append xs (n ∷ []));
        alike = λ j lt. loaded_word j (omega (arith, length-append xs (n ∷ [])));
        probes = k.probes;
      }))
    where
      loaded_word : (j : ℕ) → j ≤ length xs → slice_index (xs ++ n ∷ []) j ≡ word s w.words t j
      loaded_word j le = dite (ℕ_discrete j (length xs)) (λ q. rw q (get_or_push xs n 0 (length xs) refl ∙ e))
          (λ ne. get_or_append_left xs (n ∷ []) 0 j (omega arith) ∙ k.alike j (omega arith))

      answers : length xs ≡ LAST_WORD → MayAnswer s.nodes ps b.by (Read t) (answer_of (xs ++ n ∷ []))
      answers last =
          let x = k.there in
          let o = (inv.shared.there t x.0 x.1).0 in
          let l : slice_index (xs ++ n ∷ []) 0 ≡ o.label =
          loaded_word 0 (omega arith) ∙ label_is s w.words t o.label o.kids o.three o.holds in
          let ks : kids_in (xs ++ n ∷ []) ≡ o.kids =
          (λ i. kid_in (loaded_word 1 (omega arith) i) (kid_in (loaded_word 2 (omega arith) i) (kid_in (loaded_word 3 (omega arith) i) [])))
          ∙ kids_is s w.words t o.label o.kids o.three o.holds in
          (x.0, x.1, (λ i. tree_over ps (l i) (ks i)) ∙ ap (node_if o.label) o.kids_are ∙ ap Some (sym o.tree_is))

  -- a look: the pass sees more of the history
  look_on : (k : ℕ) → Loads 0 (record { walker = record b { stage = Idle; seen = take (max k (length b.seen)) w.history }; said = [] })
  look_on k = quiet inv p v at 0 (record b { stage = Idle; seen = take m w.history }) same_room (record {
    owns = st.owns;
    tells = record {
      begins = (drop m w.history, sym (take-append-drop m w.history));
      own_calls = ap (calls_by p) (ap (take m) st.begins.1 ∙ past b.seen rest m (omega arith)) ∙ calls_append p b.seen (take j rest)
          ∙ rw (st.own_calls, none_later) (append-nil b.mine);
      all_calls = st.all_calls;
      count = st.count;
    };
    probes = st.probes;
    free = st.free;
    spot = tt;
  })
    where
      m : ℕ
      m = max k (length b.seen)

      rest : List Entry
      rest = st.begins.0

      j : ℕ
      j = m - length b.seen

      none_later : calls_by p (take j rest) ≡ []
      none_later = front_nil (calls_by p (take j rest)) (calls_by p (drop j rest))
          (sym (calls_append p (take j rest) (drop j rest)) ∙ ap (calls_by p) (take-append-drop j rest) ∙ rest_silent st)

  -- each single step
  pub each : (g : Stage) → Spot s w.words ps chains b g → is_idle g ≡ false
      → Next (place_at s b g) (becomes_at b g (slice_index w.words (place_at s b g)))
      (turn_at s w.history (slice_index w.words (place_at s b g)) b g)
  each Idle k busy = absurd cc
  each (Looking n) k busy = look_on n
  each (AtLink c wr a) k busy = follow c wr a (slice_index w.words a) refl k
  each (AtContent c wr n i) k busy = compare c wr n i k
  each (Writing c a i) k busy = wrote_step c a i k
  each (Linking c a) k busy = exchange c a (slice_index w.words a) refl k
  each (Reading t xs) k busy = read_on t (slice_index w.words (link_of s t + 1 + length xs)) xs refl k
