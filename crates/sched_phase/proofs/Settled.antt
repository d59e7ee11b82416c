-- One more block has its order.
use Rattle.std.proofs.Common.{◌≡◌, ◌<◌, ℕ, zero, suc, ◌+◌, List, [], ◌∷◌, ◌++◌, length, Some, slice_get, refl, sym, ◌∙◌, subst, arith, length-append}
use Rattle.std.proofs.lemmas.List.Sums.{sum_by_push}
use Rattle.std.proofs.lemmas.Option.{same_Some, slice_get_within}
use Rattle.std.specs.List.{sum_by}
use Rattle.mblock.specs.Parts.{BlockParts, OrderParts}
use Rattle.mblock.specs.Orders.{AreOrders}
use Rattle.image.specs.Images.{CountsOf}
use Rattle.steal_pool.proofs.Shares.{each_more}
use Rattle.steal_pool.proofs.Pairing.{slice_left, slice_last}
use Rattle.sched_phase.specs.Phases.{Proposals, Kind, Counts, Suits, AreSettled, count_of}
use Rattle.sched_phase.specs.Settling.{AddsOne, Serves}

one_more : (part : CountsOf → ℕ) (ks : List Kind) (k : Kind) (n m : ℕ) → n ≡ sum_by (λ j. part (count_of j)) ks → m ≡ n + part (count_of k)
    → m ≡ sum_by (λ j. part (count_of j)) (ks ++ k ∷ [])
one_more part ks k n m is new =
    let f : Kind → ℕ = λ j. part (count_of j) in
    let a : sum_by f (ks ++ k ∷ []) ≡ sum_by f ks + f k = sum_by_push f ks k in
    omega (arith, is, new, a)

counts_more : (ks : List Kind) (k : Kind) (old new : CountsOf) → Counts ks old → AddsOne k old new → Counts (ks ++ k ∷ []) new
counts_more ks k old new c a = record {
  same = one_more (λ c. c.same) ks k old.same new.same c.same a.same;
  unclean = one_more (λ c. c.unclean) ks k old.unclean new.unclean c.unclean a.unclean;
  differs = one_more (λ c. c.differs) ks k old.differs new.differs c.differs a.differs;
  full = one_more (λ c. c.full) ks k old.full new.full c.full a.full;
  no_memory = one_more (λ c. c.no_memory) ks k old.no_memory new.no_memory c.no_memory a.no_memory;
  missed = one_more (λ c. c.missed) ks k old.missed new.missed c.missed a.missed;
}

pub settled_more : (proposes : Proposals) (blocks : List BlockParts) (orders : List OrderParts) (old new : CountsOf) (b : BlockParts) (k : Kind)
    (o : OrderParts) → slice_get blocks (length orders) ≡ Some b → AreSettled proposes blocks orders old → Suits proposes b o k → AddsOne k old new
    → AreSettled proposes blocks (orders ++ o ∷ []) new
settled_more proposes blocks orders old new b k o here h suits adds =
    let ks = h.kinds in
    let R : ℕ → OrderParts → Type 0 = λ i u.
    (d : BlockParts) × (j : Kind) × (slice_get blocks i ≡ Some d) × (slice_get (ks ++ k ∷ []) i ≡ Some j) × Suits proposes d u j in
    let last : slice_get (ks ++ k ∷ []) (length orders) ≡ Some k = subst (λ n. slice_get (ks ++ k ∷ []) n ≡ Some k) h.long (slice_last ks k) in
    record {
      kinds = ks ++ k ∷ [];
      long = omega (arith, length-append ks (k ∷ []), length-append orders (o ∷ []), h.long);
      each = each_more R orders o (λ i u at. let w = h.each i u at in (w.0, w.1, w.2, slice_left ks (k ∷ []) i w.1 w.3, w.4)) (b, k, here, last, suits);
      counted = counts_more ks k old new h.counted adds;
    }

abbrev pub ServeAll : List BlockParts → List OrderParts → Type 0
ServeAll blocks orders = (i : ℕ) (b : BlockParts) (o : OrderParts) → slice_get blocks i ≡ Some b → slice_get orders i ≡ Some o → Serves b o

pub serve_more : (blocks : List BlockParts) (orders : List OrderParts) (b : BlockParts) (o : OrderParts) → slice_get blocks (length orders) ≡ Some b
    → Serves b o → ServeAll blocks orders → ServeAll blocks (orders ++ o ∷ [])
serve_more blocks orders b o here one all i d u at there =
    let R : ℕ → OrderParts → Type 0 = λ i u. (d : BlockParts) → slice_get blocks i ≡ Some d → Serves d u in
    each_more R orders o (λ i u e d f. all i d u f e) (λ d f. subst (λ d. Serves d o) (same_Some b d (sym here ∙ f)) one) i u there d at

pub there : {X : Type 0} (xs : List X) (k : ℕ) → k < length xs → (x : X) × (slice_get xs k ≡ Some x)
there [] k lt = absurd (omega (arith, lt))
there (x ∷ xs) zero lt = (x, refl)
there (x ∷ xs) (suc k) lt = there xs k (omega (arith, lt))

-- where each block has its order, they are the orders of the blocks
pub are_orders : (blocks : List BlockParts) (orders : List OrderParts) → length orders ≡ length blocks → ServeAll blocks orders → AreOrders blocks orders
are_orders blocks orders long all = record {
  long = long;
  short = λ k b at. let o = there orders k (subst (λ n. k < n) (sym long) (slice_get_within blocks k b at)) in (all k b o.0 at o.1).short;
  fits = λ k o at. let b = there blocks k (subst (λ n. k < n) long (slice_get_within orders k o at)) in (all k b.0 o b.1 at).fits;
  exits = λ k b o at e. (all k b o at e).exit;
  means = λ k b o at e. (all k b o at e).means;
}
