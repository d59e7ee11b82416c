-- Links that name a node stay, and so does the content of a linked node.
use Rattle.std.proofs.Common.{◌≡◌, ℕ, suc, ◌+◌, ◌<◌, ◌⊎◌, true, List, [], ◌∷◌, ◌++◌, slice_index, refl, sym, ap, subst}
use Rattle.std.proofs.Common.{◌∙◌, inl, inr, append_assoc, append-nil, arith, Some}
use mathlib.Core.Option.{some, none}
use mathlib.Core.Option as O
use lib.ListN.{get_elem?}
use Rattle.term_labels.specs.WordTrees.{Tree}
use Rattle.term_core.specs.declared.Entry.{Entry}
use Rattle.term_core.specs.declared.Call.{Call}
use Rattle.term_core.specs.declared.Stage.{Stage}
use Rattle.term_core.specs.declared.Stage.TheVariants.{Linking}
use Rattle.term_core.specs.declared.Walker.{Walker}
use Rattle.term_core.specs.declared.TheConstants.{CONTENT_WORDS}
use Rattle.term_core.specs.Terms.{tree_at, pairs_of}
use Rattle.term_core.specs.World.{Shape, IsShape, World, Item, link_of, step_start, is_idle, does, step, world_after, start, world_of}
use Rattle.term_core.specs.Items.{Links, Writes, IsLink, LinksStay, ContentStays}
use Rattle.std.proofs.lemmas.Option.{none-some}
use Rattle.term_core.proofs.Replay.{cond_has, pairs_append, tree_later}
use Rattle.term_core.proofs.Kept.{Spot, OnLink}
use Rattle.term_core.proofs.Reaching.{keeps_all, reached}
use Rattle.term_core.proofs.EachItem.{words_stay}

world_after-append : (s : Shape) (w : World) (xs ys : List Item) → world_after s w (xs ++ ys) ≡ world_after s (world_after s w xs) ys
world_after-append s w [] ys = refl
world_after-append s w (x ∷ xs) ys = world_after-append s (step s w x) xs ys

history_of : (s : Shape) (w : World) (i : Item) (o : O.Option Walker) → (rest : List Entry) × ((does s w i o).history ≡ w.history ++ rest)
history_of s w i none = ([], sym (append-nil w.history))
history_of s w i (some v) = cond_has (λ (x : World). (rest : List Entry) × (x.history ≡ w.history ++ rest))
    (is_idle (step_start s i.choice v).stage) _ _ ([], sym (append-nil w.history)) (_, refl)

tree_stays : (s : Shape) (w : World) (i : Item) (t : ℕ) (x : Tree) → tree_at (pairs_of w.history) t ≡ Some x
    → tree_at (pairs_of (step s w i).history) t ≡ Some x
tree_stays s w i t x e = let h = history_of s w i (get_elem? w.passes i.by) in
    rw (h.1, pairs_append [] w.history h.0) (tree_later (pairs_of w.history) h.0 t x e)

not_content : (s : Shape) (a n k : ℕ) → IsLink s a → k < CONTENT_WORDS → a ≡ link_of s n + 1 + k → ⊥
not_content s a n k (inl b) lt e = omega arith
not_content s a n k (inr b) lt e = omega (arith, b.1)

module _ (s : Shape) (items : List Item) (i : Item) (ok : IsShape s) where
  abbrev w : World
  w = world_of s items

  link_at : (v : Walker) (call : Call) (a : ℕ) → get_elem? w.passes i.by ≡ some v → v.stage ≡ Linking call a → IsLink s a
  link_at v call a here stage =
      let inv = keeps_all s items ok in
      let st = inv.passes i.by v here in
      let at : OnLink s w.words (pairs_of w.history) inv.chains v call true a 1 =
      subst (λ (g : Stage). Spot s w.words (pairs_of w.history) inv.chains v g) stage st.spot in
      elim (reached s ok w inv i.by v st at) [ inl l ↦ inl l | inr g ↦ inr (g.0, g.3) ]

  stays : (a : ℕ) (o : O.Option Walker) → get_elem? w.passes i.by ≡ o
      → ((v : Walker) → get_elem? w.passes i.by ≡ some v → Links s w (step s w i) v a ⊎ Writes s w v a → ⊥)
      → slice_index (step s w i).words a ≡ slice_index w.words a
  stays a none here never = rw here refl
  stays a (some v) here never = elim (words_stay s items i v a ok here) [ inl same ↦ same | inr d ↦ absurd (never v here d) ]

  one_link : (a n : ℕ) → IsLink s a → slice_index w.words a ≡ suc n → slice_index (step s w i).words a ≡ suc n
  one_link a n l e = stays a (get_elem? w.passes i.by) refl (λ v here. elim [
    | inl k ↦ omega (arith, k.none)
    | inr k ↦ not_content s a v.own k.index l k.below k.place
  ]) ∙ e

  one_content : (t : ℕ) (x : Tree) (k : ℕ) → k < CONTENT_WORDS → tree_at (pairs_of w.history) t ≡ Some x
      → slice_index (step s w i).words (link_of s t + 1 + k) ≡ slice_index w.words (link_of s t + 1 + k)
  one_content t x k lt e = stays (link_of s t + 1 + k) (get_elem? w.passes i.by) refl (λ v here. elim [
    | inl j ↦ not_content s _ t k (link_at v j.call _ here j.stage) lt refl
    | inr j ↦ let same : v.own ≡ t = omega (arith, j.below, j.place) in
        none-some x (sym j.unused ∙ ap (tree_at (pairs_of w.history)) same ∙ e)
  ])

pub snoc : (s : Shape) (items : List Item) (i : Item) → world_of s (items ++ i ∷ []) ≡ step s (world_of s items) i
snoc s items i = world_after-append s (start s) items (i ∷ [])

pub links_stay : LinksStay
links_stay s items [] a n ok l e = rw (append-nil items) e
links_stay s items (i ∷ more) a n ok l e = rw (← append_assoc items (i ∷ []) more)
    (links_stay s (items ++ i ∷ []) more a n ok l (rw (snoc s items i) (one_link s items i ok a n l e)))

pub content_stays : ContentStays
content_stays s items [] t x k ok lt e = rw (append-nil items) refl
content_stays s items (i ∷ more) t x k ok lt e = rw (← append_assoc items (i ∷ []) more)
    (content_stays s (items ++ i ∷ []) more t x k ok lt (rw (snoc s items i) (tree_stays s (world_of s items) i t x e))
    ∙ rw (snoc s items i) (one_content s items i ok t x k lt e))
