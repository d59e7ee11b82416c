-- What each item does, in each world that a list of items reaches: it does one step of its pass (`Does`) and leaves the other passes, it
-- changes at most one word, and of what two passes have seen, one is the beginning of the other.
use prog.Atomic.{either}
use native.Mathlib.Decide.{ℕ_discrete}
use mathlib.Core.Logic.{dite}
use Rattle.std.proofs.Common.{◌≡◌, ◌≢◌, ℕ, zero, suc, ◌+◌, ◌<◌, ◌≤◌, ◌==◌, ne_eqb, ◌⊎◌, Bool, true, false, cond, List, [], ◌∷◌, ◌++◌}
use Rattle.std.proofs.Common.{slice_index, slice_set, refl, sym, ap, subst, ◌∙◌, inl, inr, ⊎_elim, append-nil, arith, length}
use Rattle.std.proofs.lemmas.Bool.{cases_lt}
use mathlib.Core.Option.{some, none, some-ne-none, some-injective}
use mathlib.Core.Option as O
use lib.ListN.{get_elem?}
use Rattle.term_core.specs.declared.Entry.{Entry}
use Rattle.term_core.specs.declared.Call.{Call}
use Rattle.term_core.specs.declared.Stage.{Stage}
use Rattle.term_core.specs.declared.Stage.TheVariants.{AtLink, Writing, Linking}
use Rattle.term_core.specs.declared.Walker.{Walker}
use Rattle.term_core.specs.Terms.{StartsWith, Pair, pairs_of}
use Rattle.term_core.specs.World.{Shape, IsShape, World, Item, place, place_at, becomes_at, link_of, step_start, is_idle, does, steps, world_of}
use Rattle.term_core.specs.Items.{link_loads, Does, EachItemDoes, OthersStand, SeenAgree, Links, Writes, WordsStay}
use Rattle.term_core.proofs.Replay.{cond_has}
use Rattle.term_core.proofs.Chains.{at_same, at_other, set_itself}
use Rattle.term_core.proofs.Kept.{Spot, Inv, Stands, begun_has, own_free}
use Rattle.term_core.proofs.Reaching.{keeps_all, lawful, begun_stands}
use Rattle.term_core.proofs.Does.{Asks, tells}

pub set_there : {A : Type 0} (l : List A) (i : ℕ) (a b : A) → get_elem? l i ≡ some b → get_elem? (slice_set l i a) i ≡ some a
set_there [] i a b e = absurd (some-ne-none b (sym e))
set_there (x ∷ xs) zero a b e = refl
set_there (x ∷ xs) (suc i) a b e = set_there xs i a b e

set_else : {A : Type 0} (l : List A) (i j : ℕ) (a : A) → j ≢ i → get_elem? (slice_set l i a) j ≡ get_elem? l j
set_else [] i j a n = refl
set_else (x ∷ xs) zero zero a n = absurd (n refl)
set_else (x ∷ xs) zero (suc j) a n = refl
set_else (x ∷ xs) (suc i) zero a n = refl
set_else (x ∷ xs) (suc i) (suc j) a n = set_else xs i j a (λ e. n (ap suc e))

idle_loads : (g : Stage) → is_idle g ≡ true → link_loads g ≡ 0
idle_loads (AtLink c w a) e = absurd cc
idle_loads _ e = refl

asked : (s : Shape) (words : List ℕ) (ps : List Pair) (chains : ℕ → List ℕ) (v : Walker) (g : Stage) → Spot s words ps chains v g → Asks g
asked s words ps chains v (AtLink c w a) k = k.walk.searches
asked s words ps chains v _ k = tt

module _ (s : Shape) (ok : IsShape s) (w : World) (inv : Inv s w) (i : Item) (v v' : Walker) (here : get_elem? w.passes i.by ≡ some v) where
  abbrev b : Walker
  b = step_start s i.choice v

  it_does : (k : Bool) → is_idle b.stage ≡ k → get_elem? (cond k w (steps s w i.by b)).passes i.by ≡ some v'
      → Does w.history (cond k w (steps s w i.by b)).history b v'
  it_does true e after =
      let same : b ≡ v = begun_has (λ u. is_idle u.stage ≡ true → u ≡ v) s i.choice v (λ _. refl) (λ g q busy _ e. absurd cc) e in
      subst (Does w.history w.history b) (same ∙ some-injective v v' (sym here ∙ after)) (record {
        by = refl;
        seen = ([], sym (append-nil b.seen));
        said = inl (refl, refl, refl);
        probes = omega (arith, idle_loads b.stage e);
      })
  it_does false e after =
      let st = begun_stands s ok w inv i.by v here i.choice v.stage in
      let told = tells s w.history b (slice_index w.words (place s b)) b.stage in
      subst (Does w.history (steps s w i.by b).history b) (some-injective _ v' (sym (set_there w.passes i.by _ v here) ∙ after)) (record {
        by = told.by;
        seen = told.seen st.begins;
        said = told.said (asked s w.words (pairs_of w.history) inv.chains b b.stage st.spot);
        probes = told.probes;
      })

pub each_item_does : EachItemDoes
each_item_does s items i v v' ok here =
    rw here (it_does s ok (world_of s items) (keeps_all s items ok) i v v' here (is_idle (step_start s i.choice v).stage) refl)

pub others_stand : OthersStand
others_stand s items i by ne = stand (get_elem? w.passes i.by)
  where
    w : World
    w = world_of s items

    stand : (o : O.Option Walker) → get_elem? (does s w i o).passes by ≡ get_elem? w.passes by
    stand none = refl
    stand (some v) = cond_has (λ (x : World). get_elem? x.passes by ≡ get_elem? w.passes by) (is_idle (step_start s i.choice v).stage) _ _
        refl (set_else w.passes i.by by _ ne)

-- of two beginnings of one list, the longer begins with the shorter
pub of_two : (h x y : List Entry) → StartsWith h x → StartsWith h y → length x ≤ length y → StartsWith y x
of_two h [] y p q le = (y, refl)
of_two h (a ∷ xs) [] p q le = absurd (omega arith)
of_two h (a ∷ xs) (b ∷ ys) p q le =
    let e : a ∷ (xs ++ p.0) ≡ b ∷ (ys ++ q.0) = sym p.1 ∙ q.1 in
    let ab : a ≡ b = cc in
    let t : xs ++ p.0 ≡ ys ++ q.0 = cc in
    let r = of_two (xs ++ p.0) xs ys (p.0, refl) (q.0, t) (omega arith) in
    (r.0, (λ i. sym ab i ∷ r.1 i))

pub seen_agree : SeenAgree
seen_agree s items p q v u ok hp hq =
    let sp = ((lawful s items ok).sees p v hp).1.begins in
    let sq = ((lawful s items ok).sees q u hq).1.begins in
    ⊎_elim (λ (l : length u.seen < length v.seen). inl (of_two (world_of s items).history u.seen v.seen sq sp (omega arith)))
    (λ (l : length v.seen ≤ length u.seen). inr (of_two (world_of s items).history v.seen u.seen sp sq l))
    (cases_lt (length u.seen) (length v.seen))

-- a step that makes of a word what it was
loads_only : (words : List ℕ) (p a : ℕ) → slice_index (slice_set words p (slice_index words p)) a ≡ slice_index words a
loads_only words p a = ap (λ (l : List ℕ). slice_index l a) (set_itself words p)

module _ (s : Shape) (w : World) (by : ℕ) (v : Walker) (a : ℕ) where
  abbrev After : Stage → List ℕ
  After g = slice_set w.words (place_at s v g) (becomes_at v g (slice_index w.words (place_at s v g)))

  abbrev Fine : List ℕ → Stage → Type 0
  Fine words g = (slice_index words a ≡ slice_index w.words a)
      ⊎ (((c : Call) × (g ≡ Linking c a) × (slice_index w.words a ≡ 0) × (slice_index words a ≡ suc v.own)) ⊎ Writes s w v a)

  linking : (c : Call) (n : ℕ) → slice_index w.words a ≡ n → a < length w.words
      → Fine (slice_set w.words a (either (n == 0) (suc v.own) n)) (Linking c a)
  linking c zero f below = inr (inl (c, refl, f, at_same w.words a _ below))
  linking c (suc m) f below = rw (ne_eqb (suc m) 0 (λ q. absurd (omega arith))) (inl (at_same w.words a _ below ∙ sym f))

  -- what the step of the pass itself does, from its stage
  of_stage : (chains : ℕ → List ℕ) → Stands s w.words w.history chains by v → (g : Stage) → place_at s v g < length w.words
      → Spot s w.words (pairs_of w.history) chains v g → Fine (After g) g
  of_stage chains st (Writing c l j) below k = dite (ℕ_discrete a (link_of s v.own + 1 + j))
      (λ e. inr (inr (record { index = j; below = k.below; place = e; unused = (own_free st k.room).1 })))
      (λ d. inl (at_other w.words (link_of s v.own + 1 + j) a _ d))
  of_stage chains st (Linking c l) below k = dite (ℕ_discrete l a)
      (λ e. rw e (linking c (slice_index w.words a) refl (rw e at below)))
      (λ d. inl (at_other w.words l a _ (λ e. d (sym e))))
  of_stage chains st _ below k = inl (loads_only w.words _ a)

pub words_stay : WordsStay
words_stay s items i v a ok here = rw here (cond_has Stay (is_idle (step_start s i.choice v).stage) _ _ (inl refl)
    (begun_has (λ u. Stay (steps s w i.by u)) s i.choice v mine
    (λ g q _ loads. let u : Walker = record v { stage = g; probes = q } in
    inl (ap (λ x. slice_index (slice_set w.words (place_at s u g) x) a) (loads u _) ∙ loads_only w.words _ a))))
  where
    w : World
    w = world_of s items

    inv : Inv s w
    inv = keeps_all s items ok

    Stay : World → Type 0
    Stay w' = (slice_index w'.words a ≡ slice_index w.words a) ⊎ (Links s w w' v a ⊎ Writes s w v a)

    mine : Stay (steps s w i.by v)
    mine =
        let st = inv.passes i.by v here in
        let low : place s v < length w.words = omega (arith, ((lawful s items ok).sees i.by v here).1.within, inv.shared.long) in
        ⊎_elim (λ e. inl e)
        (λ d. inr (⊎_elim (λ l. inl (record { call = l.0; stage = l.1; none = l.2; own = l.3 })) (λ x. inr x) d))
        (of_stage s w i.by v a inv.chains st v.stage low st.spot)
