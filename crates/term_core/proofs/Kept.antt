-- What every step keeps: the words hold the chains of the nodes that the history has, and each pass stands where its walk is right.
use Rattle.std.proofs.Common.{◌≡◌, ℕ, suc, ◌+◌, ◌*◌, ◌<◌, ◌≤◌, ◌≢◌, ◌⊎◌, Bool, true, false, List, [], ◌∷◌, ◌++◌, length, slice_index}
use Rattle.std.proofs.Common.{Some, None, refl, sym, ap, ◌∙◌, inl, inr, append_assoc, append-nil, mul-le-mul_right, suc-mul, arith}
use Rattle.std.proofs.lemmas.Bool.{cases_lt}
use Rattle.std.proofs.lemmas.List.{append_cancel_left}
use native.Mathlib.Decide.{ℕ_discrete}
use mathlib.Core.Logic.{dite}
use mathlib.Core.Option.{some}
use lib.ListN.{get_elem?}
use Rattle.term_core.specs.declared.Call.{Call}
use Rattle.term_core.specs.declared.Call.TheVariants.{Intern, Find, Read}
use Rattle.term_core.specs.declared.Entry.{Entry}
use Rattle.term_core.specs.declared.Stage.{Stage}
use Rattle.term_core.specs.declared.Stage.TheVariants.{Idle, Looking, AtLink, AtContent, Writing, Linking, Reading}
use Rattle.term_core.specs.declared.Walker.{Walker}
use Rattle.term_core.specs.declared.TheConstants.{CONTENT_WORDS}
use Rattle.term_labels.specs.WordTrees.{Tree, Trees, node}
use Rattle.term_core.specs.Terms.{Pair, tree_at, trees_at, added_by, pairs_of, IsLegal, calls_by, StartsWith}
use Rattle.term_core.specs.World.{Shape, World, Choice, link_of, kid_in, content_of, content, at_most_three, step_start, step_start_at}
use Rattle.term_core.specs.World.{word_count, begins, looks, is_idle, becomes_at, first_stage, may_begin}
use Rattle.term_core.proofs.Replay.{IsThere, cond_has, trees_stay, calls_append}
use Rattle.term_core.proofs.Chains.{Mem, mem_left, mem_here, Linked, end_of}

-- the content word i of a node
abbrev pub word : Shape → List ℕ → ℕ → ℕ → ℕ
word s words t i = slice_index words (link_of s t + 1 + i)

-- the first content words of a node are those of a row
abbrev pub Alike : Shape → List ℕ → ℕ → ℕ → List ℕ → Type 0
Alike s words t n row = (i : ℕ) → i < n → word s words t i ≡ slice_index row i

abbrev pub SameAs : Shape → List ℕ → ℕ → List ℕ → Type 0
SameAs s words t row = Alike s words t CONTENT_WORDS row

pub alike_more : (s : Shape) (words : List ℕ) (t n : ℕ) (row : List ℕ) → Alike s words t n row → word s words t n ≡ slice_index row n
    → Alike s words t (suc n) row
alike_more s words t n row f e i lt = dite (ℕ_discrete i n) (λ q. rw q e) (λ ne. f i (omega arith))

abbrev pub kids_at : Shape → List ℕ → ℕ → List ℕ
kids_at s words t = kid_in (word s words t 1) (kid_in (word s words t 2) (kid_in (word s words t 3) []))

-- the chain that a node's content says
abbrev pub home : Shape → List ℕ → ℕ → ℕ
home s words t = s.chain (word s words t 0) (kids_at s words t)

pub home_stays : (s : Shape) (words words' : List ℕ) (t : ℕ) → ((i : ℕ) → i < CONTENT_WORDS → word s words' t i ≡ word s words t i)
    → home s words' t ≡ home s words t
home_stays s words words' t e = λ k. s.chain (e 0 (omega arith) k)
    (kid_in (e 1 (omega arith) k) (kid_in (e 2 (omega arith) k) (kid_in (e 3 (omega arith) k) [])))

-- a tree's root, over children that are there
pub record Root (ps : List Pair) (x : Tree) : Type 0 where
  pub label : ℕ
  pub kids : List ℕ
  pub trees : Trees
  pub tree_is : x ≡ node label trees
  pub kids_are : trees_at ps kids ≡ Some trees
  pub three : at_most_three kids ≡ true

pub record Stored (s : Shape) (words : List ℕ) (ps : List Pair) (t : ℕ) (x : Tree) : Type 0 where
  pub root : Root ps x
  pub open root use {label, kids, trees, tree_is, kids_are, three}
  pub holds : SameAs s words t (content_of label kids)
  pub low : t < s.workers * s.nodes

pub record Shared (s : Shape) (words : List ℕ) (ps : List Pair) (chains : ℕ → List ℕ) : Type 0 where
  pub rows : (c : ℕ) → c < s.heads → Linked s words c (chains c)
  pub there : (t : ℕ) (x : Tree) → tree_at ps t ≡ Some x → Stored s words ps t x × Mem t (chains (home s words t))
  pub back : (c t : ℕ) → Mem t (chains c) → (home s words t ≡ c) × IsThere ps t
  pub few : (c : ℕ) → length (chains c) ≤ length ps
  pub long : length words ≡ word_count s

abbrev pub label_of : Call → ℕ
label_of (Intern l ks) = l
label_of (Find l ks) = l
label_of (Read t) = 0

abbrev pub kids_of : Call → List ℕ
kids_of (Intern l ks) = ks
kids_of (Find l ks) = ks
kids_of (Read t) = []

abbrev pub Searches : Call → Type 0
Searches (Read t) = ⊥
Searches _ = Unit {0}

abbrev pub Interns : Call → Type 0
Interns (Intern l ks) = Unit {0}
Interns _ = ⊥

abbrev pub chain_of : Shape → Call → ℕ
chain_of s c = s.chain (label_of c) (kids_of c)

-- the nodes pre of the chain were compared and differ, and post is the rest; of its own node and room
pub record Walk (s : Shape) (words : List ℕ) (ps : List Pair) (chains : ℕ → List ℕ) (own room : ℕ) (c : Call) (w : Bool)
    (pre post : List ℕ) : Type 0 where
  pub searches : Searches c
  pub trees : Trees
  pub known : trees_at ps (kids_of c) ≡ Some trees
  pub three : at_most_three (kids_of c) ≡ true
  pub split : chains (chain_of s c) ≡ pre ++ post
  pub differ : (t : ℕ) → Mem t pre → SameAs s words t (content c) → ⊥
  pub wrote : w ≡ true → Interns c × (0 < room) × SameAs s words own (content c)

module _ (s : Shape) (words : List ℕ) (ps : List Pair) (chains : ℕ → List ℕ) (v : Walker) where
  -- a walk that is at the link a, after `loads` loads of links beyond those of the nodes that it has passed
  pub record OnLink (c : Call) (w : Bool) (a loads : ℕ) : Type 0 where
    pub pre : List ℕ
    pub post : List ℕ
    pub walk : Walk s words ps chains v.own v.room c w pre post
    pub place_is : a ≡ end_of s (chain_of s c) pre
    pub probes : v.probes ≤ length pre + loads

  pub record OnContent (c : Call) (w : Bool) (k i : ℕ) : Type 0 where
    pub pre : List ℕ
    pub post : List ℕ
    pub walk : Walk s words ps chains v.own v.room c w pre (k ∷ post)
    pub below : i < CONTENT_WORDS
    pub alike : Alike s words k i (content c)
    pub probes : v.probes ≤ length pre + 1

  pub record OnWriting (c : Call) (a i : ℕ) : Type 0 where
    pub link : OnLink c false a 1
    pub open link use {pre, post, walk, place_is, probes}
    pub interns : Interns c
    pub room : 0 < v.room
    pub below : i < CONTENT_WORDS
    pub alike : Alike s words v.own i (content c)

  pub record OnReading (t : ℕ) (xs : List ℕ) : Type 0 where
    pub there : IsThere ps t
    pub below : length xs < CONTENT_WORDS
    pub alike : (j : ℕ) → j < length xs → slice_index xs j ≡ word s words t j
    pub probes : v.probes ≡ 0

  abbrev pub Spot : Stage → Type 0
  Spot (AtLink c w a) = OnLink c w a 0
  Spot (AtContent c w k i) = OnContent c w k i
  Spot (Writing c a i) = OnWriting c a i
  Spot (Linking c a) = OnLink c true a 1
  Spot (Reading t xs) = OnReading t xs
  Spot _ = Unit {0}

-- a node that isn't of the pass p
abbrev pub Outside : Shape → ℕ → ℕ → Type 0
Outside s p t = (t < p * s.nodes) ⊎ (p * s.nodes + s.nodes ≤ t)

-- the part of the nodes that a pass has for its own
pub record Owns (s : Shape) (by id own room : ℕ) : Type 0 where
  pub number : id ≡ by
  pub low : by < s.workers
  pub range : own + room ≡ by * s.nodes + s.nodes
  pub base : by * s.nodes ≤ own

-- what the history tells of a pass: it begins with what the pass has seen, and has its calls and nodes
pub record Tells (s : Shape) (h : List Entry) (by : ℕ) (seen mine : List Entry) (room : ℕ) : Type 0 where
  pub begins : StartsWith h seen
  pub own_calls : calls_by by seen ≡ mine
  pub all_calls : calls_by by h ≡ mine
  pub count : added_by by (pairs_of h) + room ≡ s.nodes

pub record Stands (s : Shape) (words : List ℕ) (h : List Entry) (chains : ℕ → List ℕ) (by : ℕ) (v : Walker) : Type 0 where
  pub owns : Owns s by v.by v.own v.room
  pub open owns use {number, low, range, base}
  pub tells : Tells s h by v.seen v.mine v.room
  pub open tells use {begins, own_calls, all_calls, count}
  pub probes : v.probes ≤ length (pairs_of h) + 1
  pub free : (k : ℕ) → v.own ≤ k → k < v.own + v.room → (slice_index words (link_of s k) ≡ 0) × (tree_at (pairs_of h) k ≡ None)
  pub spot : Spot s words (pairs_of h) chains v v.stage

module _ {s : Shape} {words : List ℕ} {h : List Entry} {chains : ℕ → List ℕ} {by : ℕ} {v : Walker} (st : Stands s words h chains by v) where
  -- the same pass at another place of its call, where no free node is linked by the words then
  pub stands_at : (words' : List ℕ) (g : Stage) (q : ℕ) → q ≤ length (pairs_of h) + 1
      → ((k : ℕ) → v.own ≤ k → k < v.own + v.room → slice_index words' (link_of s k) ≡ slice_index words (link_of s k))
      → Spot s words' (pairs_of h) chains (record v { stage = g; probes = q }) g
      → Stands s words' h chains by (record v { stage = g; probes = q })
  stands_at words' g q few same k = record {
    owns = st.owns;
    tells = st.tells;
    probes = few;
    free = λ k lo hi. let f = st.free k lo hi in (same k lo hi ∙ f.0, f.1);
    spot = k;
  }

  pub at_stage : (g : Stage) (q : ℕ) → q ≤ length (pairs_of h) + 1 → Spot s words (pairs_of h) chains (record v { stage = g; probes = q }) g
      → Stands s words h chains by (record v { stage = g; probes = q })
  at_stage g q few k = stands_at words g q few (λ k lo hi. refl) k

  -- with a node left, the next one is within the words, and in no other pass's part
  pub own_low : 0 < v.room → v.own < s.workers * s.nodes
  own_low some_room = omega (arith, some_room, st.range, mul-le-mul_right s.nodes st.low, suc-mul by s.nodes)

  pub own_free : 0 < v.room → (slice_index words (link_of s v.own) ≡ 0) × (tree_at (pairs_of h) v.own ≡ None)
  own_free some_room = st.free v.own (omega arith) (omega arith)

  pub not_outside : 0 < v.room → (t : ℕ) → Outside s by t → t ≢ v.own
  not_outside some_room t (inl l) q = omega (arith, st.base)
  not_outside some_room t (inr l) q = omega (arith, st.range)

  -- what the pass has not seen has no call of its own
  pub rest_silent : calls_by by st.begins.0 ≡ []
  rest_silent = append_cancel_left v.mine (calls_by by st.begins.0) []
      (ap (λ m. m ++ calls_by by st.begins.0) (sym st.own_calls) ∙ sym (calls_append by v.seen st.begins.0)
      ∙ ap (calls_by by) (sym st.begins.1) ∙ st.all_calls ∙ sym (append-nil v.mine))

-- What holds of a pass that goes on, and of one that begins what was chosen, holds where a step starts. No first step of what was chosen
-- changes a word.
pub begun_has : (P : Walker → Type 0) (s : Shape) (choice : Choice) (v : Walker) → P v
    → ((g : Stage) (q : ℕ) → is_idle g ≡ false → ((u : Walker) (n : ℕ) → becomes_at u g n ≡ n) → P (record v { stage = g; probes = q }))
    → P (step_start s choice v)
begun_has P s choice v on begun = by_stage choice v.stage
  where
    call : (c : Call) → P (record v { stage = first_stage s c; probes = 0 })
    call (Read t) = begun _ 0 refl (λ u n. refl)
    call _ = begun _ 0 refl (λ u n. refl)

    by_stage : (choice : Choice) (g : Stage) → P (step_start_at s choice v g)
    by_stage (begins c) Idle = cond_has P (may_begin v.seen c) _ _ (call c) on
    by_stage (looks n) Idle = begun (Looking n) v.probes refl (λ u n. refl)
    by_stage _ _ = on

abbrev pub rooms : List Walker → ℕ
rooms [] = 0
rooms (v ∷ vs) = v.room + rooms vs

pub record Inv (s : Shape) (w : World) : Type 0 where
  pub chains : ℕ → List ℕ
  pub legal : IsLegal s.nodes w.history
  pub shared : Shared s w.words (pairs_of w.history) chains
  pub total : rooms w.passes + length (pairs_of w.history) ≡ s.workers * s.nodes
  pub passes : (by : ℕ) (v : Walker) → get_elem? w.passes by ≡ some v → Stands s w.words w.history chains by v

-- what a step of the pass p leaves to the others
pub record Change (s : Shape) (p : ℕ) (words words' : List ℕ) (h h' : List Entry) (chains chains' : ℕ → List ℕ) : Type 0 where
  pub said : List Entry
  pub says : h' ≡ h ++ said
  pub silent : (q : ℕ) → q ≢ p → calls_by q said ≡ []
  pub same_count : (q : ℕ) → q ≢ p → added_by q (pairs_of h') ≡ added_by q (pairs_of h)
  pub longer : length (pairs_of h) ≤ length (pairs_of h')
  pub trees : (t : ℕ) (x : Tree) → tree_at (pairs_of h) t ≡ Some x → tree_at (pairs_of h') t ≡ Some x
  pub none : (t : ℕ) → tree_at (pairs_of h) t ≡ None → Outside s p t → tree_at (pairs_of h') t ≡ None
  pub links : (t : ℕ) → tree_at (pairs_of h) t ≡ None → Outside s p t → slice_index words' (link_of s t) ≡ slice_index words (link_of s t)
  pub contents : (t : ℕ) → IsThere (pairs_of h) t ⊎ Outside s p t → (i : ℕ) → i < CONTENT_WORDS → word s words' t i ≡ word s words t i
  pub grows : (c : ℕ) → (more : List ℕ) × (chains' c ≡ chains c ++ more)

module _ {s : Shape} {p : ℕ} {words words' : List ℕ} {h h' : List Entry} {chains chains' : ℕ → List ℕ}
    (d : Change s p words words' h h' chains chains') (sh : Shared s words (pairs_of h) chains) where
  -- what was there stays, and in its chain
  pub there_stays : (t : ℕ) (x : Tree) → tree_at (pairs_of h) t ≡ Some x
      → Stored s words' (pairs_of h') t x × Mem t (chains' (home s words' t))
  there_stays t x e =
      let r = sh.there t x e in
      let o = r.0 in
      let same = d.contents t (inl (x, e)) in (
        record {
          root = record {
            label = o.label;
            kids = o.kids;
            trees = o.trees;
            tree_is = o.tree_is;
            kids_are = trees_stay (pairs_of h) (pairs_of h') d.trees o.kids o.trees o.kids_are;
            three = o.three;
          };
          holds = λ i lt. same i lt ∙ o.holds i lt;
          low = o.low;
        },
        rw (home_stays s words words' t same, (d.grows (home s words t)).1) (mem_left t _ _ r.1),
      )

  pub back_stays : (c t : ℕ) → Mem t (chains c) → (home s words' t ≡ c) × IsThere (pairs_of h') t
  back_stays c t m = let r = sh.back c t m in
      (home_stays s words words' t (d.contents t (inl r.1)) ∙ r.0, (r.1.0, d.trees t r.1.0 r.1.1))

  -- content words of a node of a chain stay
  kept : (c t : ℕ) (pre post : List ℕ) → chains c ≡ pre ++ post → Mem t (pre ++ post) → (i : ℕ) → i < CONTENT_WORDS
      → word s words' t i ≡ word s words t i
  kept c t pre post split m = d.contents t (inl (sh.back c t (rw split m)).1)

  -- a walk goes on, if what it wrote stays
  pub walk_stays : {own room : ℕ} {c : Call} {w : Bool} {pre post : List ℕ}
      → (0 < room → (i : ℕ) → i < CONTENT_WORDS → word s words' own i ≡ word s words own i)
      → Walk s words (pairs_of h) chains own room c w pre post
      → Walk s words' (pairs_of h') chains' own room c w pre (post ++ (d.grows (chain_of s c)).0)
  walk_stays {c = c} {pre = pre} {post = post} own k = record {
    searches = k.searches;
    trees = k.trees;
    known = trees_stay (pairs_of h) (pairs_of h') d.trees (kids_of c) k.trees k.known;
    three = k.three;
    split = rw ((d.grows (chain_of s c)).1, k.split) (append_assoc pre post _);
    differ = λ t m same. k.differ t m (λ i lt. sym (kept (chain_of s c) t pre post k.split (mem_left t pre post m) i lt) ∙ same i lt);
    wrote = λ e. let z = k.wrote e in (z.0, z.1, (λ i lt. own z.1 i lt ∙ z.2 i lt));
  }

  module _ {q : ℕ} (ne : q ≢ p) {v : Walker} (st : Stands s words h chains q v) where
    -- the ranges of two passes are apart
    far : (k : ℕ) → v.own ≤ k → k < v.own + v.room → Outside s p k
    far k lo hi = elim (cases_lt q p) [
      | inl lt ↦ inl (omega (arith, st.range, mul-le-mul_right s.nodes lt, suc-mul q s.nodes))
      | inr ge ↦ inr (let lt : p < q = omega arith in omega (arith, st.base, mul-le-mul_right s.nodes lt, suc-mul p s.nodes))
    ]

    own_stays : 0 < v.room → (i : ℕ) → i < CONTENT_WORDS → word s words' v.own i ≡ word s words v.own i
    own_stays some_room = d.contents v.own (inr (far v.own (omega arith) (omega arith)))

    link_stays : {c : Call} {w : Bool} {a n : ℕ} → OnLink s words (pairs_of h) chains v c w a n
        → OnLink s words' (pairs_of h') chains' v c w a n
    link_stays k = record { pre = k.pre; post = _; walk = walk_stays own_stays k.walk; place_is = k.place_is; probes = k.probes }

    spot_stays : (g : Stage) → Spot s words (pairs_of h) chains v g → Spot s words' (pairs_of h') chains' v g
    spot_stays (AtLink c w a) k = link_stays k
    spot_stays (AtContent c w n i) k = record {
      pre = k.pre;
      post = _;
      walk = walk_stays own_stays k.walk;
      below = k.below;
      alike = λ j lt. kept (chain_of s c) n k.pre (n ∷ k.post) k.walk.split (mem_here n k.pre k.post) j (omega (arith, k.below)) ∙ k.alike j lt;
      probes = k.probes;
    }
    spot_stays (Writing c a i) k = record {
      link = link_stays k.link;
      interns = k.interns;
      room = k.room;
      below = k.below;
      alike = λ j lt. own_stays k.room j (omega (arith, k.below)) ∙ k.alike j lt;
    }
    spot_stays (Linking c a) k = link_stays k
    spot_stays (Reading t xs) k = record {
      there = (k.there.0, d.trees t k.there.0 k.there.1);
      below = k.below;
      alike = λ j lt. k.alike j lt ∙ sym (d.contents t (inl k.there) j (omega (arith, k.below)));
      probes = k.probes;
    }
    spot_stays _ k = tt

    pub stands_still : Stands s words' h' chains' q v
    stands_still = record {
      owns = st.owns;
      tells = record {
        begins = (st.begins.0 ++ d.said, d.says ∙ ap (λ l. l ++ d.said) st.begins.1 ∙ append_assoc v.seen st.begins.0 d.said);
        own_calls = st.own_calls;
        all_calls = rw (d.says, calls_append q h d.said, d.silent q ne, append-nil (calls_by q h)) st.all_calls;
        count = rw (d.same_count q ne) st.count;
      };
      probes = omega (arith, st.probes, d.longer);
      free = λ k lo hi. let f = st.free k lo hi in let o = far k lo hi in (d.links k f.1 o ∙ f.0, d.none k f.1 o);
      spot = spot_stays v.stage st.spot;
    }
