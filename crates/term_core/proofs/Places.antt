-- Each step is on a word that its kind may be on.
use Rattle.std.proofs.Common.{ℕ, length, refl, inl}
use Rattle.term_core.specs.declared.Stage.{Stage}
use Rattle.term_core.specs.declared.Stage.TheVariants.{AtLink, AtContent, Writing, Linking, Reading}
use Rattle.term_core.specs.declared.Walker.{Walker}
use Rattle.term_core.specs.Terms.{pairs_of}
use Rattle.term_core.specs.World.{Shape, IsShape, World, kind, place_at, step_start, world_of}
use Rattle.term_core.specs.Items.{IsPlaceOf, EachStepHasItsPlace}
use Rattle.term_core.proofs.Chains.{mem_here}
use Rattle.term_core.proofs.Kept.{Spot, Stands, Inv, own_free, chain_of}
use Rattle.term_core.proofs.Reaching.{keeps_all, begun_stands, reached}

module _ (s : Shape) (ok : IsShape s) (w : World) (inv : Inv s w) where
  at_place : (by : ℕ) (v : Walker) → Stands s w.words w.history inv.chains by v → (g : Stage)
      → Spot s w.words (pairs_of w.history) inv.chains v g → IsPlaceOf s w v (kind g) (place_at s v g)
  at_place by v st (AtLink c wr a) k = reached s ok w inv by v st k
  at_place by v st (AtContent c wr n i) k =
      let t = (inv.shared.back (chain_of s c) n (rw k.walk.split (mem_here n k.pre k.post))).1 in
      record { node = n; tree = t.0; linked = t.1; index = i; below = k.below; place = refl }
  at_place by v st (Writing c a i) k =
      record { index = i; below = k.below; place = refl; unused = (own_free st k.room).1 }
  at_place by v st (Linking c a) k = reached s ok w inv by v st k
  at_place by v st (Reading t xs) k =
      record { node = t; tree = k.there.0; linked = k.there.1; index = length xs; below = k.below; place = refl }
  at_place by v st _ k = inl ok.0

pub each_step_has_its_place : EachStepHasItsPlace
each_step_has_its_place s items i v ok here =
    let inv = keeps_all s items ok in
    let st = begun_stands s ok (world_of s items) inv i.by v here i.choice v.stage in
    at_place s ok (world_of s items) inv i.by (step_start s i.choice v) st (step_start s i.choice v).stage st.spot
