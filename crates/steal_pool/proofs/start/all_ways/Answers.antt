use Rattle.std.proofs.Common.{rules, ◌≡◌, ℕ, ◌+◌, ◌-◌, List, [], ◌∷◌, ◌++◌, Some, Vec, Global, length, length-append, map, slice_get, refl, subst, sym, ap, ◌∙◌, arith}
use Rattle.crossbeam_deque.specs.Handles.{worker_deque}
use Rattle.steal_pool.specs.declared.victim.Victim.{Victim}
use Rattle.steal_pool.specs.Starts.{AreFilled, AreVictims}
use Rattle.steal_pool.proofs.Shares.{each_more}
use Rattle.steal_pool.proofs.Pairing.{AreWays, Own}
use Rattle.steal_pool.proofs.start.all_ways.Goals as goal

pub loop-w-preserved : goal.loop-w-preserved
loop-w-preserved g c =
    let X = Own g.row.K.Denot in
    let V = Vec (Victim g.row.K.Denot) Global in
    let n = c.args.n in let count = length c.args.workers.now.items in
    let deque : X → _ = λ d. worker_deque d in
    let ds = map deque c.loop-w.workers.items in
    let ds' = map deque c.victims_of.new.workers.items in
    let R : ℕ → V → Type 0 = λ k v. (w : ℕ) → k + w + 1 ≡ count → AreVictims n ds w v.items in
    let xs = c.loop-w.ways.items in let new : V = c.in_ok-victims.victims in
    let is : c.push.new.self.items ≡ xs ++ new ∷ [] = search rules in
    let was = c.loop-w.invariant in
    let told = c.in_ok-victims.ensures in
    let left = c.loop-w-test.true in
    let long : length (xs ++ new ∷ []) ≡ length xs + 1 = length-append xs (new ∷ []) in
    let all : length c.push.new.self.items ≡ length xs + 1 = ap length is ∙ long in
    let ways : AreVictims n ds (c.loop-w.w - 1) new.items = told.ways in
    let fresh : R (length xs) new = λ w at. subst (λ p. AreVictims n ds p new.items) (omega (arith, at, was.2, left)) ways in
    let Q : List V → Type 0 = λ l. (k : ℕ) (v : V) → slice_get l k ≡ Some v → R k v in
    let more : Q (xs ++ new ∷ []) = each_more R xs new (λ k v at w e. was.3 k w v at e) fresh in
    let now : Q c.push.new.self.items = subst Q (sym is) more in
    let same : ds' ≡ ds = told.same.1 in (
      told.same.0 ∙ was.0,
      subst (λ m. AreFilled m n c.victims_of.new.workers.items) was.0 told.filled,
      omega (arith, all, was.2, left),
      λ k w v at e. subst (λ l. AreVictims n l w v.items) (sym same) (now k v at w e),
    )

pub loop-w-init : goal.loop-w-init
loop-w-init g c =
    let zs = c.args.workers.now.items in
    let none = c.new-ways.ensures.items in (
      refl,
      c.requires.filled,
      omega (arith, ap length none, c.len-w.ensures),
      subst (AreWays (length zs) c.args.n (map (λ d. worker_deque d) zs)) (sym none) (λ k w v at e. absurd (cc at)),
    )

pub victims_of-requires-clause-filled : goal.victims_of-requires-clause-filled
victims_of-requires-clause-filled g c =
    let was = c.loop-w.invariant in subst (λ m. AreFilled m c.args.n c.loop-w.workers.items) (sym was.0) was.1
