-- What one item does to the pass that it names, and to the others.
use Rattle.std.specs.Prelude.{◌≡◌, ◌≢◌, ℕ, suc, ◌+◌, ◌<◌, ◌⊎◌, List, [], ◌∷◌, ◌++◌, Option, Some, None, slice_index}
use mathlib.Core.Option.{some}
use Rattle.term_labels.specs.WordTrees.{Tree}
use lib.ListN.{get_elem?}
use Rattle.term_core.specs.declared.TheConstants.{CONTENT_WORDS}
use Rattle.term_core.specs.declared.Call.{Call}
use Rattle.term_core.specs.declared.Call.TheVariants.{Read}
use Rattle.term_core.specs.declared.Answer.{Answer}
use Rattle.term_core.specs.declared.Entry.{Entry}
use Rattle.term_core.specs.declared.Walker.{Walker}
use Rattle.term_core.specs.declared.Stage.{Stage}
use Rattle.term_core.specs.declared.Stage.TheVariants.{Idle, Looking, AtLink, AtContent, Writing, Linking, Reading}
use Rattle.term_core.specs.Terms.{StartsWith, pairs_of, tree_at}
use Rattle.term_core.specs.World.{Shape, World, Item, IsShape, Kind, load_link, load_content, store_content, exchange_link, kind, place}
use Rattle.term_core.specs.World.{entry}
use Rattle.term_core.specs.World.{step_start, step, world_of, link_of}

-- the call that a pass is inside
abbrev pub call_in : Stage → Option Call
call_in Idle = None
call_in (Looking k) = None
call_in (AtLink c w a) = Some c
call_in (AtContent c w n i) = Some c
call_in (Writing c a i) = Some c
call_in (Linking c a) = Some c
call_in (Reading t xs) = Some (Read t)

-- the loads of a link that a call's next step makes
abbrev pub link_loads : Stage → ℕ
link_loads (AtLink c w a) = 1
link_loads _ = 0

-- A pass that was inside the call `c`, and is b before and v after: the call goes on and nothing is said. Or it ends: its entry is the
-- last of the history, which its pass has then seen whole
abbrev pub GoesOn : List Entry → List Entry → Option Call → Walker → Walker → Type 0
GoesOn h h' c b v = (h' ≡ h) × (v.mine ≡ b.mine) × (call_in v.stage ≡ c)

pub record EndsCall (h h' : List Entry) (c : Option Call) (b v : Walker) : Type 0 where
  pub call : Call
  pub answer : Answer
  pub inside : c ≡ Some call
  pub history : h' ≡ h ++ entry b call answer ∷ []
  pub mine : v.mine ≡ b.mine ++ entry b call answer ∷ []
  pub seen : v.seen ≡ h'
  pub idle : v.stage ≡ Idle

-- What an item does to the pass that it names. Its number stays, and what it had seen stays the beginning of what it has seen. Its call
-- goes on or ends, and its probes grow by the loads of a link. `b` is the pass after it has begun what the item chose
pub record Does (h h' : List Entry) (b v : Walker) : Type 0 where
  pub by : v.by ≡ b.by
  pub seen : StartsWith v.seen b.seen
  pub said : GoesOn h h' (call_in b.stage) b v ⊎ EndsCall h h' (call_in b.stage) b v
  pub probes : v.probes ≡ b.probes + link_loads b.stage

abbrev pub EachItemDoes : Type 0
EachItemDoes = (s : Shape) (items : List Item) (i : Item) (v v' : Walker) → IsShape s
    → get_elem? (world_of s items).passes i.by ≡ some v → get_elem? (step s (world_of s items) i).passes i.by ≡ some v'
    → Does (world_of s items).history (step s (world_of s items) i).history (step_start s i.choice v) v'

abbrev pub OthersStand : Type 0
OthersStand = (s : Shape) (items : List Item) (i : Item) (by : ℕ) → by ≢ i.by
    → get_elem? (step s (world_of s items) i).passes by ≡ get_elem? (world_of s items).passes by

-- what two passes have seen: one is the beginning of the other
abbrev pub SeenAgree : Type 0
SeenAgree = (s : Shape) (items : List Item) (p q : ℕ) (v u : Walker) → IsShape s
    → get_elem? (world_of s items).passes p ≡ some v → get_elem? (world_of s items).passes q ≡ some u
    → StartsWith v.seen u.seen ⊎ StartsWith u.seen v.seen

-- A word that an item changes is a link that was none and becomes the node of the pass. Or it is a content word of the pass's next node,
-- which no ticket names yet
pub record Links (s : Shape) (w w' : World) (v : Walker) (a : ℕ) : Type 0 where
  pub call : Call
  pub stage : v.stage ≡ Linking call a
  pub none : slice_index w.words a ≡ 0
  pub own : slice_index w'.words a ≡ suc v.own

pub record Writes (s : Shape) (w : World) (v : Walker) (a : ℕ) : Type 0 where
  pub index : ℕ
  pub below : index < CONTENT_WORDS
  pub place : a ≡ link_of s v.own + 1 + index
  pub unused : tree_at (pairs_of w.history) v.own ≡ None

abbrev pub WordsStay : Type 0
WordsStay = (s : Shape) (items : List Item) (i : Item) (v : Walker) (a : ℕ) → IsShape s → get_elem? (world_of s items).passes i.by ≡ some v
    → (slice_index (step s (world_of s items) i).words a ≡ slice_index (world_of s items).words a)
    ⊎ (Links s (world_of s items) (step s (world_of s items) i) v a ⊎ Writes s (world_of s items) v a)

-- a link: the head of a chain, or the link of a node
abbrev pub IsLink : Shape → ℕ → Type 0
IsLink s a = (a < s.heads) ⊎ ((n : ℕ) × (a ≡ link_of s n))

-- a link that names a node names it for ever
abbrev pub LinksStay : Type 0
LinksStay = (s : Shape) (items more : List Item) (a n : ℕ) → IsShape s → IsLink s a
    → slice_index (world_of s items).words a ≡ suc n → slice_index (world_of s (items ++ more)).words a ≡ suc n

-- the four content words of a linked node, which the history names by a ticket, never change
abbrev pub ContentStays : Type 0
ContentStays = (s : Shape) (items more : List Item) (t : ℕ) (x : Tree) (k : ℕ) → IsShape s → k < CONTENT_WORDS
    → tree_at (pairs_of (world_of s items).history) t ≡ Some x
    → slice_index (world_of s (items ++ more)).words (link_of s t + 1 + k) ≡ slice_index (world_of s items).words (link_of s t + 1 + k)

-- a link that a walk comes to: the head of a chain, or the link of a node that is linked
abbrev pub IsReachedLink : Shape → World → ℕ → Type 0
IsReachedLink s w a = (a < s.heads) ⊎ ((n : ℕ) × (x : Tree) × (tree_at (pairs_of w.history) n ≡ Some x) × (a ≡ link_of s n))

-- one of the four content words of a node that is linked
pub record IsContentWord (s : Shape) (w : World) (a : ℕ) : Type 0 where
  pub node : ℕ
  pub tree : Tree
  pub linked : tree_at (pairs_of w.history) node ≡ Some tree
  pub index : ℕ
  pub below : index < CONTENT_WORDS
  pub place : a ≡ link_of s node + 1 + index

-- the word that a step of this kind may be on
abbrev pub IsPlaceOf : Shape → World → Walker → Kind → ℕ → Type 0
IsPlaceOf s w v load_link a = IsReachedLink s w a
IsPlaceOf s w v load_content a = IsContentWord s w a
IsPlaceOf s w v store_content a = Writes s w v a
IsPlaceOf s w v exchange_link a = IsReachedLink s w a

-- the word of each step that an item takes is one that its kind may be on
abbrev pub EachStepHasItsPlace : Type 0
EachStepHasItsPlace = (s : Shape) (items : List Item) (i : Item) (v : Walker) → IsShape s
    → get_elem? (world_of s items).passes i.by ≡ some v
    → IsPlaceOf s (world_of s items) (step_start s i.choice v) (kind (step_start s i.choice v).stage) (place s (step_start s i.choice v))
