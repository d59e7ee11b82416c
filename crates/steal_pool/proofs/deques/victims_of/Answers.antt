use Rattle.std.proofs.Common.{rules, ◌≡◌, ℕ, ◌+◌, ◌%◌, ◌∷◌, [], ◌++◌, List, map, length, length-set, Some, slice_get, subst, sym, arith, ap, refl, ◌∙◌, ◌<◌}
use Rattle.std.proofs.lemmas.List.{length-map}
use Rattle.std.proofs.lemmas.List.Elements.{All-push, All-same}
use Rattle.std.proofs.lemmas.Option.{slice_get_read}
use Rattle.crossbeam_deque.specs.Handles.{view, worker_deque, worker_view, stealer_deque}
use Rattle.steal_pool.specs.declared.victim.Victim.{Victim}
use Rattle.steal_pool.specs.Victims.{IsVictim}
use Rattle.steal_pool.specs.Shares.{Begins, Visits}
use Rattle.steal_pool.specs.Starts.{IsFilled}
use Rattle.steal_pool.proofs.Shares.{each_more, each_set, visits}
use Rattle.steal_pool.proofs.Turns.{found, kept}
use Rattle.steal_pool.proofs.Pairing.{Own}
use Rattle.steal_pool.proofs.deques.victims_of.Goals as goal

pub victim_to-requires-clause-fifo : goal.victim_to-requires-clause-fifo
victim_to-requires-clause-fifo g c =
    let xs = c.loop-step.workers.items in let x = c.index_mut.result.now in let k = (c.args.w + c.loop-step.step) % c.len.result in
    let within : k < length xs = search rules in
    let at : slice_get xs k ≡ Some x = slice_get_read xs (length xs) k x refl within c.index_mut.ensures.value in
    (c.loop-step.invariant.3 k x at).0

pub loop-step-preserved : goal.loop-step-preserved
loop-step-preserved g c =
    let W = Victim g.row.K.Denot in let X = Own g.row.K.Denot in
    let deque : X → _ = λ d. worker_deque d in
    let was = c.loop-step.invariant in
    let xs = c.loop-step.workers.items in let zs = c.args.workers.now.items in
    let x : X = c.index_mut.result.now in let y : X = c.victim_to.new.worker in
    let k = (c.args.w + c.loop-step.step) % c.len.result in
    let count = length zs in let n = c.args.n in let w = c.args.w in
    let ds = map deque zs in
    let is = c.index_mut.ensures.value in
    let within : k < length xs = search rules in
    let at : slice_get xs k ≡ Some x = slice_get_read xs (length xs) k x refl within is in
    let filled : IsFilled count n k x = was.3 k x at in
    let same = c.victim_to.ensures.same in
    let still : IsFilled count n k y = (same.1 ∙ filled.0, subst (Begins k count n) (sym same.2) filled.1) in
    let new : W = c.in_ok-victim.victim in let vs = c.loop-step.victims.items in
    let pushed : c.push.new.self.items ≡ vs ++ new ∷ [] = search rules in
    let R : ℕ → W → Type 0 = λ j l. Visits ((w + 1 + j) % count) count n (view l.pass) × (slice_get ds ((w + 1 + j) % count) ≡ Some (stealer_deque l.stealer)) in
    let knows : Visits k count n (view new.pass) = subst (Visits k count n) (sym c.in_ok-victim.ensures.victim.1) (visits k count n (worker_view x) filled.1) in
    let here : slice_get ds k ≡ Some (deque x) = found deque xs zs k x is was.2 within in
    let leads : slice_get ds k ≡ Some (stealer_deque new.stealer) = here ∙ ap Some (sym c.in_ok-victim.ensures.deque) in
    let all : c.len.result ≡ count = search rules in
    let turn : k ≡ (w + 1 + length vs) % count = ap (λ m. (w + c.loop-step.step) % m) all ∙ ap (λ m. m % count) (omega (arith, was.0)) in
    let fresh : R (length vs) new = subst (λ p. Visits p count n (view new.pass) × (slice_get ds p ≡ Some (stealer_deque new.stealer))) turn (knows, leads) in
    let more : length c.push.new.self.items + 1 ≡ c.loop-step.step + 1 = search rules in
    let Q : List W → Type 0 = λ l. (j : ℕ) (u : W) → slice_get l j ≡ Some u → R j u in (
      more,
      length-set xs k y ∙ was.1,
      kept deque xs zs k x is was.2 y same.0,
      each_set (IsFilled count n) xs k y still was.3,
      All-same IsVictim _ _ pushed (All-push IsVictim vs new was.4 c.in_ok-victim.ensures.victim.0),
      subst Q (sym pushed) (each_more R vs new was.5 fresh),
    )

pub returns-clause-ways : goal.returns-clause-ways
returns-clause-ways g c =
    let X = Own g.row.K.Denot in
    let deque : X → _ = λ d. worker_deque d in
    let was = c.loop-step.invariant in
    let zs = c.args.workers.now.items in let ds = map deque zs in
    let n = c.args.n in let w = c.args.w in
    let long : length ds ≡ length zs = length-map zs deque in
    let ended : length c.loop-step.victims.items + 1 ≡ length zs = search rules in
    record {
      victims = was.4;
      visits = λ k l at. subst (λ m. Visits ((w + 1 + k) % m) m n (view l.pass)) (sym long) (was.5 k l at).0;
      others = ended ∙ sym long;
      turn = λ k l at. subst (λ m. slice_get ds ((w + 1 + k) % m) ≡ Some (stealer_deque l.stealer)) (sym long) (was.5 k l at).1;
    }
