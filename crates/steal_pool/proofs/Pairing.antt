-- Deques and ways are paired, a member a step. The ways of the first place stand last.
use Rattle.std.proofs.Common.{◌≡◌, ◌≢◌, ℕ, zero, suc, ◌+◌, ◌<◌, List, [], ◌∷◌, ◌++◌, All, Some, Vec, length, length-append, map, slice_get, sym, ap, refl, ◌∙◌, subst, append_assoc, append-nil, arith}
use Rattle.std.proofs.lemmas.List.{map-append}
use Rattle.std.proofs.lemmas.Option.{slice_get_within, slice_get-get_or}
use Rattle.std.specs.declared.alloc.Global.{Global}
use Rattle.atomic_blocks.specs.Lent.{RowsId}
use Rattle.crossbeam_deque.specs.Handles.{worker_view, worker_deque}
use Rattle.crossbeam_deque.specs.declared.handles.Worker.{Worker}
use Rattle.steal_pool.specs.declared.view.View.{View}
use Rattle.steal_pool.specs.declared.rule.Shared.{Shared}
use Rattle.steal_pool.specs.declared.victim.Victim.{Victim}
use Rattle.steal_pool.specs.declared.member.Member.{Member}
use Rattle.steal_pool.specs.Shares.{Begins}
use Rattle.steal_pool.specs.Starts.{Apart, IsFilled, own_deques, AreVictims, StartsAt, Start}
use Rattle.steal_pool.proofs.Shares.{each_more, shares_differ}

-- a task that lies on one of two deques alone tells them apart
pub shares_apart : (count n i j : ℕ) (v u : View) → i < count → i < n → i ≢ j → Begins i count n v → Begins j count n u → Apart v u
shares_apart count n i j v u below more other a b items views p q dealt at at' =
    shares_differ count n i j v.put u.put below more other a.1 b.1 ((dealt.2 p v at a.0).1 ∙ sym (dealt.2 q u at' b.0).1)

pub slice_left : {X : Type 0} (xs ys : List X) (k : ℕ) (x : X) → slice_get xs k ≡ Some x → slice_get (xs ++ ys) k ≡ Some x
slice_left [] ys k x at = absurd (cc at)
slice_left (y ∷ xs) ys zero x at = at
slice_left (y ∷ xs) ys (suc k) x at = slice_left xs ys k x at

pub slice_last : {X : Type 0} (xs : List X) (x : X) → slice_get (xs ++ x ∷ []) (length xs) ≡ Some x
slice_last [] x = refl
slice_last (y ∷ xs) x = slice_last xs x

pub all_at : {X : Type 0} (P : X → Type 0) (xs : List X) → ((k : ℕ) (x : X) → slice_get xs k ≡ Some x → P x) → All P xs
all_at P xs h = λ k d low. h k _ (slice_get-get_or xs k d low)

abbrev pub Own : Type 0 → Type 0
Own K = Worker ℕ Global View (Shared K)

module _ {K : Type 0} where
  -- the ways of all places of count, those of the first place last
  abbrev pub AreWays : ℕ → ℕ → List (RowsId × Global) → List (Vec (Victim K) Global) → Type 0
  AreWays count n deques ways = (k w : ℕ) (v : Vec (Victim K) Global) → slice_get ways k ≡ Some v → k + w + 1 ≡ count → AreVictims n deques w v.items

  abbrev pub all_deques : List (Member K) → List (Own K) → List (RowsId × Global)
  all_deques ms rest = own_deques ms ++ map (λ d. worker_deque d) rest

  -- the members so far, the deques and the ways that are left
  pub record Pairs (count n : ℕ) (ms : List (Member K)) (rest : List (Own K)) (ways : List (Vec (Victim K) Global)) : Type 0 where
    pub len : length ms + length rest ≡ count
    pub left : length ways ≡ length rest
    pub filled : (k : ℕ) (d : Own K) → slice_get rest k ≡ Some d → IsFilled count n (length ms + k) d
    pub to : (k w : ℕ) (v : Vec (Victim K) Global) → slice_get ways k ≡ Some v → k + w + 1 ≡ count → AreVictims n (all_deques ms rest) w v.items
    pub each : (w : ℕ) (m : Member K) → slice_get ms w ≡ Some m → StartsAt count n (all_deques ms rest) w m

  pub paired : (count n : ℕ) (ms : List (Member K)) (d : Own K) (rest : List (Own K)) (ways : List (Vec (Victim K) Global)) (v : Vec (Victim K) Global)
      → Pairs count n ms (d ∷ rest) (ways ++ v ∷ []) → Pairs count n (ms ++ record { own = d; others = v } ∷ []) rest ways
  paired count n ms d rest ways v was =
      let new : Member K = record { own = d; others = v } in
      let ds = all_deques ms (d ∷ rest) in
      let same : all_deques (ms ++ new ∷ []) rest ≡ ds =
      ap (λ l. l ++ map (λ d. worker_deque d) rest) (map-append (λ (m : Member K). worker_deque m.own) ms (new ∷ [])) ∙ append_assoc (own_deques ms) (worker_deque d ∷ []) (map (λ d. worker_deque d) rest) in
      let long : length (ms ++ new ∷ []) ≡ length ms + 1 = length-append ms (new ∷ []) in
      let longer : length (ways ++ v ∷ []) ≡ length ways + 1 = length-append ways (v ∷ []) in
      let here = was.filled zero d refl in
      let at : length ways + length ms + 1 ≡ count = omega (arith, was.len, was.left, longer) in
      let way : AreVictims n ds (length ms) v.items = was.to (length ways) (length ms) v (slice_last ways v) at in
      let mine : StartsAt count n ds (length ms) new = record { member = (here.0, way.victims, refl); share = subst (λ w. Begins w count n (worker_view d)) (omega arith) here.1; ways = way } in
      record {
        len = omega (arith, was.len, long);
        left = omega (arith, was.left, longer);
        filled = λ k e at. subst (λ w. IsFilled count n w e) (omega (arith, long)) (was.filled (suc k) e at);
        to = λ k w u at is. subst (λ l. AreVictims n l w u.items) (sym same) (was.to k w u (slice_left ways (v ∷ []) k u at) is);
        each = λ w m at. subst (λ l. StartsAt count n l w m) (sym same) (each_more (StartsAt count n ds) ms new was.each mine w m at);
      }

  pub begun : (count n : ℕ) (rest : List (Own K)) (ways : List (Vec (Victim K) Global)) → length rest ≡ count → length ways ≡ count
      → ((k : ℕ) (d : Own K) → slice_get rest k ≡ Some d → IsFilled count n k d)
      → ((k w : ℕ) (v : Vec (Victim K) Global) → slice_get ways k ≡ Some v → k + w + 1 ≡ count → AreVictims n (map (λ d. worker_deque d) rest) w v.items)
      → Pairs count n [] rest ways
  begun count n rest ways len left filled to = record {
    len = omega (arith, len);
    left = left ∙ sym len;
    filled = λ k d at. subst (λ w. IsFilled count n w d) (omega arith) (filled k d at);
    to = to;
    each = λ w m at. absurd (cc at);
  }

  pub done : (count n : ℕ) (ms : List (Member K)) (ways : List (Vec (Victim K) Global)) → Pairs count n ms [] ways → Start count n ms
  done count n ms ways was =
      let same : all_deques ms [] ≡ own_deques ms = append-nil (own_deques ms) in
      let len : length ms ≡ count = omega (arith, was.len) in
      record {
        len = len;
        each = λ w m at. subst (λ l. StartsAt count n l w m) same (was.each w m at);
        apart = λ i j a b at at' more other.
            let below : i < count = subst (λ c. i < c) len (slice_get_within ms i a at) in
            shares_apart count n i j (worker_view a.own) (worker_view b.own) below more other (was.each i a at).share (was.each j b at').share;
      }
